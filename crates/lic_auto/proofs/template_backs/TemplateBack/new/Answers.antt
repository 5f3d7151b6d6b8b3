use Rattle.lic_words.specs.Reversal.{reversed_expression}
use Rattle.lic_set.specs.Sets.{words_of}
use Rattle.lic_auto.proofs.Changing.{some_at}
use Rattle.lic_auto.proofs.template_backs.TemplateBack.new.Goals as goal

pub new-requires : goal.new-requires
new-requires c =
    let (known, is) = some_at c.args.set.now c.args.number c.requires in
    (c.in_ok-tree.ensures known is).measured

pub returns-clause-sought : goal.returns-clause-sought
returns-clause-sought c = λ known is.
    let words = (c.in_ok-tree.ensures known is).words in
    c.in_ok-matcher.ensures.taken (reversed_expression (words_of known)) (λ w. (words.to w, words.from w))
