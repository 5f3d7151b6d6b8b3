use Rattle.std.proofs.Common.{sym}
use Rattle.std.proofs.lemmas.Bool.{false≢true}
use Rattle.lic_set.specs.Sets.{words_of}
use Rattle.lic_auto.proofs.Changing.{some_at}
use Rattle.lic_auto.proofs.template_runs.TemplateRun.new.Goals as goal

pub new-requires : goal.new-requires
new-requires c =
    let (known, is) = some_at c.args.set.now c.args.number c.requires in
    (c.in_ok-tree.ensures known is).measured

pub returns-clause-follows : goal.returns-clause-follows
returns-clause-follows c = λ known is.
    let words = (c.in_ok-tree.ensures known is).words in
    record {
      live = λ h. c.in_ok-run.ensures.taken (words_of known) (λ w. (words.to w, words.from w));
      ended = λ h. absurd (false≢true (sym h));
    }
