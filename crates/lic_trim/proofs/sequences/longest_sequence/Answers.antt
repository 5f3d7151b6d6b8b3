use Rattle.std.proofs.Common.{◌≡◌, ◌<◌, ◌≤◌, ◌+◌, ◌++◌, ◌∷◌, [], ◌∙◌, ℕ, Bool, true, cond, refl, sym, ap, subst, take, map, length, arith}
use Rattle.std.specs.List.{list_any}
use Rattle.std.specs.Prelude.{◌&&◌, nat_le, slice_index, false}
use Rattle.lic_kind.specs.Kinds.{kind_of, is_mark_kind}
use Rattle.std.proofs.lemmas.List.{length-append, length-map}
use Rattle.lic_trim.specs.Sources.{chars_of}
use Rattle.lic_trim.specs.Texts.{is_sequence, greatest}
use Rattle.lic_kind.specs.LineRules.{rules_of}
use Rattle.lic_trim.specs.Walks.{walked, is_walked_piece, side_repeated, repeat_ends, ends_piece, AreSequences, IsStreakFront}
use Rattle.lic_trim.proofs.FlagSteps.{sequence_value, sequences_start, front_start, sequences_push, front_push, greatest_more}
use Rattle.lic_trim.proofs.SideEnds.{list_any-map, repeats_start, repeats_push, put_back}
use Rattle.lic_trim.proofs.Stops.{breaks_at, nothing_beyond}
use Rattle.lic_trim.proofs.TailSequences.{greatest_above, greatest_stays}
use Rattle.lic_trim.proofs.Walking.{length-walked_chars}
use Rattle.lic_trim.proofs.sequences.longest_sequence.Goals as goal
use Rattle.lic_trim.proofs.sequences.longest_sequence.Goals.{then-is_sequence, else-is_sequence}

pub loop-k-init : goal.loop-k-init
loop-k-init c =
    let rules = rules_of c.args.rules.now in
    let line = walked c.args.side (chars_of c.args.line.now) in
    let flags : c.push.new.self.items ≡ true ∷ [] = c.in_ok-push.ensures.items ∙ ap (λ l. l ++ true ∷ []) c.new-flags.ensures.items in
    record {
      count = ap length flags;
      sequences = subst (λ l. AreSequences (is_walked_piece rules c.args.side) l line) (sym flags) (sequences_start (is_walked_piece rules c.args.side) line);
      front = front_start c.push.new.self.items line;
      best = refl;
      within = omega arith;
      repeats = c.in_ok-repeating.ensures ∙ repeats_start c.push.new.self.items line (side_repeated rules c.args.side);
    }

pub returns-then-not-separator_goes_on-clause-sequence : goal.returns-then-not-separator_goes_on-clause-sequence
returns-then-not-separator_goes_on-clause-sequence c =
    let rules = rules_of c.args.rules.now in
    let p = is_walked_piece rules c.args.side in
    let line = walked c.args.side (chars_of c.args.line.now) in
    let flags = c.loop-k.flags.items in
    let k = c.loop-k.k in
    let known = c.loop-k.invariant in
    let test = λ (n : ℕ). is_sequence p (take n line) in
    let many = length-walked_chars c.args.side c.args.line.now in
    let moved = subst (λ l. IsStreakFront l line (k + 1) c.streak_front-first.result) c.deref.ensures.value c.streak_front-first.ensures in
    let none : (nat_le c.streak_front-first.result k && is_mark_kind (kind_of (slice_index line k))) ≡ false = sym c.separator_goes_on.ensures ∙ search in
    let beyond = nothing_beyond rules c.args.side flags line (k + 1) c.loop-k.longest c.reach-reach.result known.sequences known.count
    (breaks_at flags line k c.streak_front-first.result moved none)
    (record { texts = c.reach-reach.ensures.texts; spaced = c.reach-reach.ensures.spaced; repeated = c.reach-reach.ensures.repeated })
    (λ m more below. greatest_above test k m (subst (λ n. n < m) known.best more) (omega arith)) (omega arith) in
    known.best ∙ sym (greatest_stays test k (length line) (omega arith) (λ m more le. beyond m (omega arith) le))

pub piece_ends-is_sequence-requires-clause-noted : goal.piece_ends-is_sequence-requires-clause-noted
piece_ends-is_sequence-requires-clause-noted c =
    let rules = rules_of c.args.rules.now in
    let line = walked c.args.side (chars_of c.args.line.now) in
    let flags = c.loop-k.flags.items in
    let k = c.loop-k.k in
    let ts = side_repeated rules c.args.side in
    let known = c.loop-k.invariant in
    let stepped : c.step_repeats.new.repeating ≡ map (repeat_ends flags line (k + 1)) ts =
    c.step_repeats.ensures ∙ ap (λ l. map (repeat_ends l line (k + 1)) ts) c.deref-in-loop-k.ensures.value in
    let back = put_back c.loop-k.repeating.items c.step_repeats.new.repeating c.loop-k.repeating.len (omega (arith, c.loop-k.repeating.ok.0))
    (omega (arith, ap length stepped, length-map ts (repeat_ends flags line (k + 1)), ap length known.repeats, length-map ts (repeat_ends flags line k))) in
    c.any_set-repeated.ensures ∙ ap (list_any (λ (flag : Bool). flag)) (c.deref-in-loop-k-2.ensures.value ∙ back ∙ stepped)
    ∙ list_any-map (repeat_ends flags line (k + 1)) (λ (flag : Bool). flag) ts
    ∙ ap (λ l. list_any (repeat_ends l line (k + 1)) ts) (sym c.deref-in-loop-k-3.ensures.value)

pub loop-k-preserved : goal.loop-k-preserved
loop-k-preserved c =
    let rules = rules_of c.args.rules.now in
    let p = is_walked_piece rules c.args.side in
    let flags = c.loop-k.flags.items in
    let line = walked c.args.side (chars_of c.args.line.now) in
    let k = c.loop-k.k in
    let first = c.streak_front-first.result in
    let b = c.piece_ends-is_sequence.result in
    let known = c.loop-k.invariant in
    let ts = side_repeated rules c.args.side in
    let test = λ (n : ℕ). is_sequence p (take n line) in
    let many = length-walked_chars c.args.side c.args.line.now in
    let count : length flags ≡ k + 1 = known.count in
    let within : k + 1 ≤ length line = omega arith in
    let pushed : c.push-in-loop-k.new.self.items ≡ flags ++ b ∷ [] = c.in_ok-push-2.ensures.items in
    let value : b ≡ ends_piece p flags line (k + 1) = c.piece_ends-is_sequence.ensures ∙ ap (λ l. ends_piece p l line (k + 1)) c.deref-in-loop-k-3.ensures.value in
    let sequence : b ≡ test (k + 1) = value ∙ sequence_value p flags line (k + 1) known.sequences (omega arith) (omega arith) within in
    let front = front_push flags line (k + 1) first b (omega arith)
    (subst (λ l. IsStreakFront l line (k + 1) first) c.deref.ensures.value c.streak_front-first.ensures) in
    let stepped : c.step_repeats.new.repeating ≡ map (repeat_ends flags line (k + 1)) ts =
    c.step_repeats.ensures ∙ ap (λ l. map (repeat_ends l line (k + 1)) ts) c.deref-in-loop-k.ensures.value in
    record {
      count = omega (arith, ap length pushed, length-append flags (b ∷ []));
      sequences = subst (λ l. AreSequences p l line) (sym pushed) (sequences_push p flags line (k + 1) b known.sequences (omega arith) count within value);
      front = subst (λ l. IsStreakFront l line (k + 1) first) (sym pushed) front;
      best = elim c.if-is_sequence.branch [
        | then-is_sequence w ↦ w.longest-is ∙ sym (greatest_more test k ∙ ap (λ t. cond t (k + 1) (greatest test k)) (sym sequence ∙ w.if-is_sequence.true))
        | else-is_sequence w ↦ w.longest-is ∙ known.best ∙ sym (greatest_more test k ∙ ap (λ t. cond t (k + 1) (greatest test k)) (sym sequence ∙ w.if-is_sequence.false))
      ];
      within = elim c.if-is_sequence.branch [ then-is_sequence w ↦ omega arith | else-is_sequence w ↦ omega arith ];
      repeats =
          put_back c.loop-k.repeating.items c.step_repeats.new.repeating c.loop-k.repeating.len (omega (arith, c.loop-k.repeating.ok.0))
          (omega (arith, ap length stepped, length-map ts (repeat_ends flags line (k + 1)), ap length known.repeats, length-map ts (repeat_ends flags line k)))
          ∙ stepped ∙ repeats_push flags line (k + 1) b (omega arith) ts ∙ ap (λ l. map (repeat_ends l line (k + 1)) ts) (sym pushed);
    }
