-- After a text, letter after letter.
use Rattle.std.proofs.Common.{length, refl, arith}
use Rattle.std.specs.Str.{chars}
use Rattle.std.proofs.lemmas.Iterator.{YieldsList-from_chars}
use Rattle.std.proofs.lemmas.Iterator.Consumers.{YieldsList-turn, YieldsList-end}
use Rattle.std.proofs.lemmas.List.{length_push}
use Rattle.lic_vars.proofs.StepOverLemmas.{text-next, text-more, text-all, text-none}
use Rattle.lic_vars.proofs.cut.after_text.Goals as goal

pub loop-c-init : goal.loop-c-init
loop-c-init c = text-none c.args.view.now c.tokens_have_texts.ensures c.args.cut (chars c.args.text.now) 0 refl

pub after_letter-cut-requires : goal.after_letter-cut-requires
after_letter-cut-requires c =
    let t = YieldsList-turn (YieldsList-from_chars c.args.text.now c.utf8.text cc) c.loop-c.yielded _ c.loop-c.yielded_by _ _ c.in-Some.c c.in-Some.is c.next.ensures.steps in
    text-next c.args.view.now c.tokens_have_texts.ensures c.args.cut c.loop-c.cut (chars c.args.text.now) (length c.loop-c.yielded) c.in-Some.c t.0 t.1
    c.loop-c.invariant c.requires.0 c.requires.1

pub loop-c-preserved : goal.loop-c-preserved
loop-c-preserved c =
    let t = YieldsList-turn (YieldsList-from_chars c.args.text.now c.utf8.text cc) c.loop-c.yielded _ c.loop-c.yielded_by _ _ c.in-Some.c c.in-Some.is c.next.ensures.steps in
    text-more c.args.view.now c.tokens_have_texts.ensures c.args.cut c.loop-c.cut c.after_letter-cut.result (chars c.args.text.now) (length c.loop-c.yielded) _ c.in-Some.c t.0 t.1
    (length_push c.loop-c.yielded c.in-Some.c) c.loop-c.invariant c.after_letter-cut.ensures

pub returns : goal.returns
returns c =
    let t = YieldsList-end (YieldsList-from_chars c.args.text.now c.utf8.text cc) c.loop-c.yielded _ c.loop-c.yielded_by _ _ c.in-None.is c.next.ensures.steps in
    text-all c.args.view.now c.tokens_have_texts.ensures c.args.cut c.loop-c.cut (chars c.args.text.now) (length c.loop-c.yielded) (omega (arith, t.1)) c.loop-c.invariant
