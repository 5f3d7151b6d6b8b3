-- From the clauses of a scan to what was written about a file.
use Rattle.std.proofs.Common.{◌≡◌, ℕ, ◌+◌, ◌<◌, Bool, List, length, map, take, get_or, Option, Result, Ok, Err, IfOk, OnErr, IsErrOf, nat_lt, refl, sym, subst, ◌∙◌, ◌++◌, append-nil}
use Rattle.std.specs.Borrow.{Bor}
use Rattle.std.specs.Io.KnownBytes.{Appends}
use Rattle.std.proofs.lemmas.List.{map_more, take-map}
use Rattle.lic_engine.specs.Failures.{CountsWrites}
use Rattle.lic_engine.specs.Inputs.{IsAccepted}
use Rattle.lic_engine.specs.Stream.{BeginsWith}
use Rattle.lic_engine.specs.declared.fault.RunFault.{RunFault}
use Rattle.lic_engine.specs.declared.fault.RunFault.TheVariants.{Text, Read, Write, Memory}
use Rattle.lic_command.specs.Lines.{AreBegun, AreWritten, HasRead, HasWritten, Input}
use Rattle.lic_command.specs.Lines.AreWritten.{one_more}
use Rattle.lic_command.specs.Outcomes.{IsWithOneMore, refused_by}
use Rattle.lic_command.specs.Reporting.{AreReported, IsAnswerReported}
use Rattle.lic_command.specs.Reporting.AreReported.{one_more as reported_one_more}
use Rattle.lic_command.specs.declared.faults.Stop.{Stop}
use Rattle.lic_command.specs.declared.files.Work.{Work}
use Rattle.lic_command.specs.declared.files.Written.{Written}

module _ (a b u v : Option (List ℕ)) (lines_of : List ℕ → List ℕ) where
  -- the lines of all tokens of what was read, as lines of their own
  pub whole_lines : {E : Type 0} (r : Result Bool E)
      → IfOk r (λ some. (bytes : List ℕ) × IsAccepted a b bytes × Appends u v (lines_of bytes) × (some ≡ nat_lt 0 (length (lines_of bytes))))
      → IfOk r (λ some. (bytes lines : List ℕ) × IsAccepted a b bytes × (lines ≡ lines_of bytes) × Appends u v lines × (some ≡ nat_lt 0 (length lines)))
  whole_lines (Ok x) w = (w.0, lines_of w.0, w.1, refl, w.2, w.3)
  whole_lines (Err x) w = tt

  pub part_lines : ((bytes : List ℕ) × IsAccepted a b bytes × BeginsWith u v (lines_of bytes))
      → (bytes : List ℕ) × IsAccepted a b bytes × ((lines : List ℕ) → lines ≡ lines_of bytes → BeginsWith u v lines)
  part_lines w = (w.0, w.1, λ lines e. subst (BeginsWith u v) (sym e) w.2)

-- one file more
pub written_more : {in_old in_mid in_new : Input} {old mid new : Option (List ℕ)} {before after : Written} {refused : List (List ℕ)}
    (answer : Result Bool RunFault) (work : Work) (names : List (Bor (List ℕ))) (k : ℕ) (d : Bor (List ℕ)) → k < length names
    → AreWritten work in_old old (map (λ name. name.now) (take k names)) refused in_mid mid before
    → HasRead (get_or names k d).now in_mid in_new answer → HasWritten work (get_or names k d).now in_mid in_new mid new answer
    → IsWithOneMore before answer after
    → AreWritten work in_old old (map (λ name. name.now) (take (k + 1) names)) (refused ++ refused_by (get_or names k d).now answer) in_new new after
written_more {in_old} {in_mid} {in_new} {old} {mid} {new} {before} {after} {refused} answer work names k d within written read more one =
    subst (λ ns. AreWritten work in_old old ns (refused ++ refused_by (get_or names k d).now answer) in_new new after)
    (sym (map_more (λ name. name.now) names k d within))
    (one_more (get_or names k d).now answer written read more one)

-- the work stops after `k` files
pub begun : {in_old in_new : Input} {old new : Option (List ℕ)} {written : Written} {refused : List (List ℕ)} (r : Result Written Stop) (work : Work)
    (names : List (Bor (List ℕ))) (k : ℕ)
    → AreWritten work in_old old (map (λ name. name.now) (take k names)) refused in_new new written
    → OnErr r (AreBegun work in_old old (map (λ name. name.now) names) in_new new)
begun (Ok x) work names k are = tt
begun {in_old} {in_new} {old} {new} {written} {refused} (Err stop) work names k are =
    (k, refused, written, subst (λ ns. AreWritten work in_old old ns refused in_new new written) (sym (take-map (λ name. name.now) k names)) are)

-- a line about one file more, if it is refused
pub reported_more : {old mid new : Option (List ℕ)} {failed_old failed_mid failed_new : ℕ} (refused : List (List ℕ)) (name : List ℕ)
    (answer : Result Bool RunFault) → AreReported old failed_old refused mid failed_mid → IsAnswerReported name answer mid new failed_mid failed_new
    → AreReported old failed_old (refused ++ refused_by name answer) new failed_new
reported_more {old} {mid} {new} {failed_old} {failed_mid} {failed_new} refused name (Ok some) reported same =
    subst (λ ns. AreReported old failed_old ns new failed_new) (sym (append-nil refused))
    (subst (λ n. AreReported old failed_old refused new n) (sym same.1)
    (subst (λ t. AreReported old failed_old refused t failed_mid) (sym same.0) reported))
reported_more refused name (Err fault) reported line = reported_one_more name line.0 reported line.1

-- no write failed for one file more
pub counts_more : {old mid new : ℕ} (answer : Result Bool RunFault) → CountsWrites answer mid new → mid ≡ old
    → ¬ (IsErrOf answer Write) → new ≡ old
counts_more (Ok x) counts e none = counts.0 ∙ e
counts_more (Err (Text fault)) counts e none = counts.4 fault refl ∙ e
counts_more (Err Read) counts e none = counts.1 refl ∙ e
counts_more (Err Write) counts e none = absurd (none refl)
counts_more (Err Memory) counts e none = counts.3 refl ∙ e
