-- One instruction more on the way to the least record.
use Rattle.std.proofs.Common.{◌≡◌, ℕ, ◌<◌, ◌≤◌, inl, inr, ◌↔◌, Bool, true, false, List, [], ◌∷◌, ◌++◌, length, drop, take, refl, sym, subst, arith, append-nil}
use Rattle.std.specs.Prelude.{Contains}
use Rattle.std.proofs.lemmas.Bool.{true≢false}
use Rattle.lic_words.specs.Words.{Word}
use Rattle.lic_words.specs.Letters.{letters_in}
use Rattle.lic_words.specs.Expressions.{Expression}
use Rattle.lic_norm.specs.Tokens.{TokenValue}
use Rattle.lic_tokens.specs.declared.token.Span.{Span}
use Rattle.lic_places.specs.Places.{AreTexts, OverBlank, spelling_of}
use Rattle.lic_places.specs.Reads.{Reads}
use Rattle.lic_places.proofs.Reading.{Reads-cut, Reads-order}
use Rattle.lic_spans.specs.declared.span.PlaceSpan.{PlaceSpan}
use Rattle.lic_view.specs.PlaceSets.{Reaches}
use Rattle.lic_view.proofs.ViewPlaces.{end-within}
use Rattle.lic_view.proofs.ViewSpans.{front-to}
use Rattle.lic_vars.specs.Moves.{Move, text, variable, optional}
use Rattle.lic_vars.specs.Making.{CanMake, LeastOf}
use Rattle.lic_vars.specs.Cuts.{AreFinishing, IsOpen, LeadsTo, ReadsFrom, ReadsOn, lead}
use Rattle.lic_vars.specs.Recorded.{AreOfLeast, IsWalk, recorded}
use Rattle.lic_vars.specs.Shortest.{IsShortest, LeadsWithin}
use Rattle.lic_vars.specs.Values.{Assigned, covered}
use Rattle.lic_vars.specs.declared.cut.Cut.{Cut}
use Rattle.lic_vars.proofs.StepOverLemmas.{lead-joined, lead-parted, open-read}
use Rattle.lic_vars.proofs.MakingLemmas.{can-absent, can-picked, can-text, least-absent, least-ended, least-present, least-same, least-text, least-variable}

module _ (tokens : List TokenValue) (are : AreTexts tokens) where
  abbrev end : ℕ
  end = length (spelling_of tokens)

  lead_append : (b : Bool) (v w : Word) → lead b (v ++ w) ≡ lead b v ++ w
  lead_append true v w = refl
  lead_append false v w = refl

  -- a word read from a cut, and then another
  pub on-parted : (cut : Cut) (v w : Word) → ReadsOn tokens cut (v ++ w) → (m : ℕ) × ReadsFrom tokens cut v m × Reads tokens m w end
  on-parted cut v w reads =
      Reads-cut tokens (lead cut.is_apart v) w cut.place end (subst (λ x. Reads tokens cut.place x end) (lead_append cut.is_apart v w) reads)

  open_at : (p : ℕ) (b : Bool) (w : Word) → Reads tokens p (lead b w) end → b ≡ true → OverBlank tokens p p
  open_at p true w reads is = open-read tokens are p w end reads
  open_at p false w reads is = absurd (true≢false (sym is))

  pub open-can : (ms : List Move) (cut : Cut) → CanMake ms (ReadsOn tokens cut) → IsOpen tokens cut
  open-can ms cut can = open_at cut.place cut.is_apart can.word can.is

  pub within-can : (ms : List Move) (cut : Cut) → CanMake ms (ReadsOn tokens cut) → cut.place ≤ end
  within-can ms cut can = Reads-order tokens (lead cut.is_apart can.word) cut.place end can.is

  module _ (ms : List Move) (cut : Cut) where
    -- ---- a text

    pub text-read : (u : Word) → CanMake (text u ∷ ms) (ReadsOn tokens cut) → (w : Word) × ReadsOn tokens cut (u ++ w)
    text-read u can = let more = can-text ms (ReadsOn tokens cut) u can in (more.word, more.is)

    -- ---- an optional part

    module _ (rest : List PlaceSpan) (finish : AreFinishing tokens ms rest) where
      pub finish-cut : ((p : ℕ) × (last : ℕ) × ReadsFrom tokens cut [] p × Reaches tokens rest p last) ↔ CanMake ms (ReadsOn tokens cut)
      finish-cut = (
        λ r.
            let can = (finish.exact r.0).0 (r.1, r.3) in
            record { choices = can.choices; word = can.word; makes = can.makes; is = lead-joined tokens are cut.place cut.is_apart r.0 end can.word r.2 can.is },
        λ can.
            let parts = lead-parted tokens are cut.place cut.is_apart end can.word can.is in
            let there = (finish.exact parts.0).1 (record { choices = can.choices; word = can.word; makes = can.makes; is = parts.2 }) in
            (parts.0, there.0, parts.1, there.1),
      )

      -- ---- a variable

      pub variable-leads : (name : List ℕ) (re : Expression) → CanMake (variable name re ∷ ms) (ReadsOn tokens cut) → LeadsWithin tokens re rest cut end
      variable-leads name re some =
          let can = can-picked ms (ReadsOn tokens cut) name re some in
          let parts = on-parted cut can.word can.later can.all in
          let there = (finish.exact parts.0).1 (record { choices = can.rest; word = can.later; makes = can.makes; is = parts.2 }) in
          let r = there.1 in
          let front = finish.placed.front r.kind r.number there.0 r.holds in
          record {
            kind = r.kind;
            number = r.number;
            last = there.0;
            holds = r.holds;
            within = omega (arith, front-to tokens r.kind r.number there.0 front, end-within tokens there.0 (last-known r.holds.span r.holds.among r.holds.last_is));
            end = parts.0;
            place = r.place;
            word = can.word;
            is = can.is;
            reads = parts.1;
          }
        where
          last-known : {l : ℕ} (s : PlaceSpan) → Contains rest s → s.last ≡ l → l < length tokens
          last-known s among same = subst (λ l. l < length tokens) same (subst (λ (x : PlaceSpan). x.last < length tokens) among.2 (finish.placed.last among.0 s among.1))

      pub shortest-can : (re : Expression) (next : Cut) → IsShortest tokens re rest cut next → CanMake ms (ReadsOn tokens next)
      shortest-can re next short =
          let can = (finish.exact short.end).0 (short.last, short.reached) in
          record { choices = can.choices; word = can.word; makes = can.makes; is = lead-joined tokens are next.place next.is_apart short.end end can.word short.here can.is }

  -- ---- one instruction more

  module _ (all ms : List Move) (letters : List Span) (values : List Assigned) (cut : Cut) (after : List Span) where
    pub walk-text : (u : Word) (next : Cut) → IsWalk tokens all (text u ∷ ms) letters values cut after → LeadsTo tokens cut u next
        → IsWalk tokens all ms letters values next (drop (letters_in u) after)
    walk-text u next is leads =
        let can = can-text ms (ReadsOn tokens cut) u is.can in
        record {
          can = record { choices = can.choices; word = can.word; makes = can.makes; is = (leads can.word).0 can.is };
          least = λ r h. is.least r (least-text ms (ReadsOn tokens cut) u r
              (least-same ms (ReadsOn tokens next) (λ w. ReadsOn tokens cut (u ++ w)) r (λ w. ((leads w).1, (leads w).0)) h));
        }

    pub walk-present : (n : ℕ) → IsWalk tokens all (optional n ∷ ms) letters values cut after → CanMake ms (ReadsOn tokens cut)
        → IsWalk tokens all ms letters values cut after
    walk-present n is can = record { can = can; least = λ r h. is.least (0 ∷ r) (least-present ms (ReadsOn tokens cut) n r h) }

    pub walk-absent : (n : ℕ) (more : List Assigned) → IsWalk tokens all (optional n ∷ ms) letters values cut after → (CanMake ms (ReadsOn tokens cut) → ⊥)
        → ((r : List ℕ) → more ++ recorded 0 (drop n ms) r after ≡ values ++ recorded n ms r after)
        → IsWalk tokens all (drop n ms) letters more cut after
    walk-absent n more is none same = record {
      can = can-absent ms (ReadsOn tokens cut) n none is.can;
      least = λ r h. subst (AreOfLeast tokens all letters) (sym (same r)) (is.least (1 ∷ r) (least-absent ms (ReadsOn tokens cut) n r none h));
    }

    pub walk-variable : (name : List ℕ) (re : Expression) (rest : List PlaceSpan) (finish : AreFinishing tokens ms rest) (next : Cut) (n : ℕ) (more : List Assigned)
        → IsWalk tokens all (variable name re ∷ ms) letters values cut after → (short : IsShortest tokens re rest cut next) → n ≡ letters_in short.word
        → ((others : List Assigned) → more ++ others ≡ values ++ record { name = name; span = covered (take n after) } ∷ others)
        → IsWalk tokens all ms letters more next (drop n after)
    walk-variable name re rest finish next n more is short count pushed =
        record {
          can = shortest-can ms cut rest finish re next short;
          least = λ r h. subst (AreOfLeast tokens all letters) (sym (pushed (recorded 0 ms r (drop n after))))
              (is.least (n ∷ r) (subst (λ m. LeastOf (variable name re ∷ ms) (ReadsOn tokens cut) (m ∷ r)) (sym count)
              (least-variable ms (ReadsOn tokens cut) name re short.word r short.is
              (λ v w q l f reads.
              let parts = on-parted cut v w reads in
              let there = (finish.exact parts.0).1 (record { choices = q; word = w; makes = f; is = parts.2 }) in
              elim (short.least v parts.0 there.0 l parts.1 there.1) [
                | inl fewer ↦ inl fewer
                | inr same ↦ inr (same.0, (short.leads w).1 ((same.1 w).0 reads))
              ])
              (least-same ms (ReadsOn tokens next) (λ w. ReadsOn tokens cut (short.word ++ w)) r (λ w. ((short.leads w).1, (short.leads w).0)) h))));
        }

pub walk-ends : (tokens : List TokenValue) (all : List Move) (letters : List Span) (values : List Assigned) (cut : Cut) (after : List Span)
    → IsWalk tokens all [] letters values cut after → AreOfLeast tokens all letters values
walk-ends tokens all letters values cut after is =
    subst (AreOfLeast tokens all letters) (append-nil values) (is.least [] (least-ended (ReadsOn tokens cut) is.can))
