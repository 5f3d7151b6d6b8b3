use Rattle.std.proofs.Common.{◌≡◌, ◌∷◌, ◌++◌, [], Bool, true, false, not, refl, sym, ◌∙◌, subst, append_assoc}
use Rattle.std.specs.Str.{chars}
use Rattle.std.proofs.lemmas.Bool.{false≢true}
use Rattle.lic_words.specs.Describing.{IsDescribed}
use Rattle.lic_auto.proofs.template_runs.TemplateRun.push.Goals as goal

is_true : (b : Bool) → not b ≡ false → b ≡ true
is_true true h = refl
is_true false h = cc

pub returns-then-self : goal.returns-then-self
returns-then-self c = record {
  number = refl;
  tree = c.push.ensures.tree;
  follows = λ e ts follows.
      let occurs = c.push.ensures.taken e ts (follows.live c.if-self.true) in
      record {
        live = λ h. occurs;
        ended = λ h. c.is_dead.ensures e (ts ++ chars c.args.token.now ∷ []) occurs (is_true c.is_dead.result h);
      };
  left_out = λ h. absurd (false≢true (sym h ∙ c.if-self.true));
}

pub returns-else-self : goal.returns-else-self
returns-else-self c = record {
  number = refl;
  tree = refl;
  follows = λ e ts follows. record {
    live = λ h. absurd (false≢true (sym c.if-self.false ∙ h));
    ended = λ h more described. follows.ended c.if-self.false (chars c.args.token.now ∷ more)
        (subst (IsDescribed e) (append_assoc ts (chars c.args.token.now ∷ []) more) described);
  };
  left_out = λ h. h;
}
