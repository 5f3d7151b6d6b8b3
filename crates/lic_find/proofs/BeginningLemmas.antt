-- Where a finder begins.
use Rattle.std.proofs.Common.{◌≡◌, ℕ, ◌+◌, ◌-◌, ◌*◌, ◌^◌, ◌<◌, ◌≤◌, List, [], ◌∷◌, length, Option, Some, None, IfSome, IfNone, unwrap_or, sym, ap, ◌∙◌, subst, arith}
use Rattle.lic_norm.specs.Tokens.{TokenValue}
use Rattle.lic_set.specs.Sets.{Known}
use Rattle.lic_auto.specs.Runs.{RunHasTakenAmong, numbers_of, set_of, steps_of}
use Rattle.lic_auto.specs.declared.run.Run.{Run}
use Rattle.lic_find.specs.Bounds.{letters_of}
use Rattle.lic_find.specs.Counts.{AreCounted}
use Rattle.lic_find.specs.Firsts.{NotedFirst, AreFirstsFrom, noted_with}
use Rattle.lic_find.specs.Listing.{matches_after}
use Rattle.lic_set.specs.Matches.{AreMatches}
use Rattle.lic_find.specs.Scans.{BeginsAt, HasCome}
use Rattle.lic_set.specs.declared.triple.Triple.{Triple}
use Rattle.lic_find.proofs.StepLemmas.{AreCounted-begin, AreCounted-none}
use Rattle.lic_find.proofs.Scanning.{HasCome-begin, HasCome-none}

-- all matches begin with the first token or later
pub begins_whole : (cursor : Option Triple) (begin : ℕ) → BeginsAt cursor begin → cursor ≡ None → begin ≡ 0
begins_whole None begin begins all = begins
begins_whole (Some triple) begin begins all = absurd (let never : Some triple ≡ None = all in cc)

-- the least of the noted first tokens, at which a run was begun, or none
abbrev pub HasBegun : List NotedFirst → List NotedFirst → Run → Run → Option ℕ → Type 0
HasBegun starts left run new None = (starts ≡ []) × (left ≡ starts) × (new ≡ run)
HasBegun starts left run new (Some first) =
    (noted : NotedFirst) × (starts ≡ noted ∷ left) × (noted.first ≡ first) × RunHasTakenAmong new (noted_with (numbers_of run) noted.numbers) []

module _ (set : List Known) (tokens : List TokenValue) (cursor : Option Triple) (from : ℕ) (run new : Run) (alike : numbers_of new ≡ numbers_of run)
    (starts left : List NotedFirst) (firsts : AreFirstsFrom set tokens (numbers_of run) from starts) where
  firsts_of_new : AreFirstsFrom set tokens (numbers_of new) from starts
  firsts_of_new = subst (λ ns. AreFirstsFrom set tokens ns from starts) (sym alike) firsts

  pub HasCome-begun : (begin : ℕ) → BeginsAt cursor begin → from ≤ begin → (from < length tokens → begin ≤ from) → set_of new ≡ set →
      RunHasTakenAmong run (numbers_of run) [] → (r : Option ℕ) → HasBegun starts left run new r
      → HasCome set tokens cursor new left (unwrap_or r (length tokens)) (unwrap_or r (length tokens))
  HasCome-begun begin begins low high templates fresh None (empty, same, still) =
      subst (λ l. HasCome set tokens cursor new l (length tokens) (length tokens)) (sym (same ∙ empty))
      (HasCome-none set tokens cursor begin from begins low high new templates (subst (AreFirstsFrom set tokens (numbers_of new) from) empty firsts_of_new)
      (subst (λ r. RunHasTakenAmong r (numbers_of r) []) (sym still) fresh))
  HasCome-begun begin begins low high templates fresh (Some first) (noted, is, here, taken) =
      subst (λ n. HasCome set tokens cursor new left n n) here
      (HasCome-begin set tokens cursor begin from begins low high new templates noted left
      (subst (AreFirstsFrom set tokens (numbers_of new) from) is firsts_of_new)
      (subst (λ ns. RunHasTakenAmong new (noted_with ns noted.numbers) []) (sym alike) taken))

  pub AreCounted-begun : (listed : (after : Option Triple)
      → AreMatches set tokens after (matches_after set tokens after)) (noting : ℕ)
      → noting ≤ 2 * letters_of tokens →
      (cursor ≡ None → noting < 2 ^ 64 - 1 → letters_of tokens ≤ noting) → (cursor ≡ None → from ≡ 0)
      → from ≤ length tokens → steps_of run ≡ 0 → steps_of new ≤ steps_of run + 2 →
      (r : Option ℕ) → HasBegun starts left run new r
      → AreCounted set tokens (numbers_of new) cursor noting (steps_of new) (unwrap_or r (length tokens))
      (unwrap_or r (length tokens))
  AreCounted-begun listed noting most least whole within fresh few None (empty, same, still) =
      AreCounted-none set tokens listed cursor noting most least (numbers_of new) from (steps_of new) whole within (ap steps_of still ∙ fresh)
      (subst (AreFirstsFrom set tokens (numbers_of new) from) empty firsts_of_new)
  AreCounted-begun listed noting most least whole within fresh few (Some first) (noted, is, here, taken) =
      subst (λ n. AreCounted set tokens (numbers_of new) cursor noting (steps_of new) n n) here
      (AreCounted-begin set tokens listed cursor noting most least (numbers_of new) from (steps_of new) noted whole within (omega arith)
      (subst (AreFirstsFrom set tokens (numbers_of new) from) is firsts_of_new).0)

pub HasBegun-given : (starts left : List NotedFirst) (run new : Run) (r : Option ℕ) →
    IfSome r (λ first. (noted : NotedFirst) × (starts ≡ noted ∷ left) × (noted.first ≡ first)
    × RunHasTakenAmong new (noted_with (numbers_of run) noted.numbers) []) →
    IfNone r ((starts ≡ []) × (left ≡ starts) × (new ≡ run)) → HasBegun starts left run new r
HasBegun-given starts left run new None some none = none
HasBegun-given starts left run new (Some first) some none = some

pub IfNone-map : {A : Type 0} {P Q : Type 0} → (r : Option A) → (P → Q) → IfNone r P → IfNone r Q
IfNone-map None f p = f p
IfNone-map (Some x) f p = p
