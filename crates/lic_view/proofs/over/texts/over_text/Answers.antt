use Rattle.lic_view.proofs.TextLemmas.{back-text}
use Rattle.lic_view.proofs.over.texts.over_text.Goals as goal

pub returns : goal.returns
returns c =
    back-text c.args.keep c.args.view.now c.args.text.now c.edges_of-edges.result.letters.now c.edges_of-edges.result.has_front c.edges_of-edges.result.has_end
    c.args.spans.items c.in_ok-spans.spans.items c.in_ok-spans-2.spans.items c.in_ok-spans-3.spans.items c.in_ok-kept.field-0.items
    c.tokens_have_texts.ensures c.edges_of-edges.ensures c.in_ok-spans.ensures c.in_ok-spans-2.ensures c.in_ok-spans-3.ensures c.in_ok-kept.ensures
