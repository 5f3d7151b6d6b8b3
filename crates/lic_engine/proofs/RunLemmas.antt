-- From the clauses of a text and of a report to those of a run.
use Rattle.std.proofs.Common.{◌≡◌, ℕ, List, length, Bool, Option, Result, Ok, Err, IfOk, OnErr, IsErrOf, nat_lt, subst, sym}
use Rattle.std.specs.Io.KnownBytes.{Appends}
use Rattle.lic_kind.specs.LineRules.{LineRules}
use Rattle.lic_norm.specs.Tokens.{TokenValue, tokens_of}
use Rattle.lic_phrases.specs.Rewriting.{Phrase}
use Rattle.lic_set.specs.Sets.{Known}
use Rattle.lic_stream.specs.Stream.{BeginsWith}
use Rattle.lic_report.specs.Report.{IsReport, IsReportOf, token_lines}
use Rattle.lic_find.specs.declared.ask.Ask.{Ask}
use Rattle.lic_engine.specs.Inputs.{IsAccepted}

-- these bytes were read to the end, are accepted, and have these tokens
pub record HasTokens (rules : LineRules) (words : List Phrase) (a b : Option (List ℕ)) (source : List ℕ)
    (tokens : List TokenValue) (bytes : List ℕ) : Type 0 where
  pub accepted : IsAccepted a b bytes
  pub bytes_same : source ≡ bytes
  pub same : tokens ≡ tokens_of rules words bytes

module _ (rules : LineRules) (name : List ℕ) (set : List Known) (words : List Phrase) (ask : Ask) where
  -- the report on the tokens of what was read is the report on what was read
  read_report : (source : List ℕ) (tokens : List TokenValue) (bytes lines : List ℕ) → source ≡ bytes → tokens ≡ tokens_of rules words bytes
      → IsReportOf name set ask source tokens lines → IsReport rules name set words ask bytes lines
  read_report source tokens bytes lines d e p =
      subst (λ ts. IsReportOf name set ask bytes ts lines) e (subst (λ s. IsReportOf name set ask s tokens lines) d p)

  report_read : (source : List ℕ) (tokens : List TokenValue) (bytes lines : List ℕ) → source ≡ bytes → tokens ≡ tokens_of rules words bytes
      → IsReport rules name set words ask bytes lines → IsReportOf name set ask source tokens lines
  report_read source tokens bytes lines d e p =
      subst (λ s. IsReportOf name set ask s tokens lines) (sym d) (subst (λ ts. IsReportOf name set ask bytes ts lines) (sym e) p)

  pub whole_report : {E : Type 0} (r : Result Bool E) (source : List ℕ) (tokens : List TokenValue) (bytes : List ℕ) (a b u v : Option (List ℕ))
      → HasTokens rules words a b source tokens bytes
      → IfOk r (λ some. (lines : List ℕ) × IsReportOf name set ask source tokens lines × Appends u v lines × (some ≡ nat_lt 0 (length lines)))
      → IfOk r (λ some. (bs lines : List ℕ) × IsAccepted a b bs × IsReport rules name set words ask bs lines
      × Appends u v lines × (some ≡ nat_lt 0 (length lines)))
  whole_report (Ok x) source tokens bytes a b u v h w =
      (bytes, w.0, h.accepted, read_report source tokens bytes w.0 h.bytes_same h.same w.1, w.2, w.3)
  whole_report (Err x) source tokens bytes a b u v h w = tt

  pub part_report : {E : Type 0} (r : Result Bool E) (fault : E) (source : List ℕ) (tokens : List TokenValue) (bytes : List ℕ) (a b u v : Option (List ℕ))
      → HasTokens rules words a b source tokens bytes
      → OnErr r ((lines : List ℕ) → IsReportOf name set ask source tokens lines → BeginsWith u v lines) → IsErrOf r fault
      → (bs : List ℕ) × IsAccepted a b bs × ((lines : List ℕ) → IsReport rules name set words ask bs lines → BeginsWith u v lines)
  part_report (Ok x) fault source tokens bytes a b u v h w is = absurd (cc)
  part_report (Err x) fault source tokens bytes a b u v h w is =
      (bytes, h.accepted, λ lines p. w lines (report_read source tokens bytes lines h.bytes_same h.same p))

module _ (rules : LineRules) (name : List ℕ) (words : List Phrase) where
  -- the lines of the tokens of what was read are those of what was read
  pub whole_tokens : {E : Type 0} (r : Result Bool E) (source : List ℕ) (tokens : List TokenValue) (bytes : List ℕ) (a b u v : Option (List ℕ))
      → HasTokens rules words a b source tokens bytes
      → IfOk r (λ some. Appends u v (token_lines name tokens) × (some ≡ nat_lt 0 (length (token_lines name tokens))))
      → IfOk r (λ some. (bs : List ℕ) × IsAccepted a b bs
      × Appends u v (token_lines name (tokens_of rules words bs)) × (some ≡ nat_lt 0 (length (token_lines name (tokens_of rules words bs)))))
  whole_tokens (Ok x) source tokens bytes a b u v h w = (
    bytes,
    h.accepted,
    subst (λ ts. Appends u v (token_lines name ts)) h.same w.0,
    subst (λ ts. x ≡ nat_lt 0 (length (token_lines name ts))) h.same w.1,
  )
  whole_tokens (Err x) source tokens bytes a b u v h w = tt

  pub part_tokens : {E : Type 0} (r : Result Bool E) (fault : E) (source : List ℕ) (tokens : List TokenValue) (bytes : List ℕ) (a b u v : Option (List ℕ))
      → HasTokens rules words a b source tokens bytes
      → OnErr r (BeginsWith u v (token_lines name tokens)) → IsErrOf r fault
      → (bs : List ℕ) × IsAccepted a b bs × BeginsWith u v (token_lines name (tokens_of rules words bs))
  part_tokens (Ok x) fault source tokens bytes a b u v h w is = absurd (cc)
  part_tokens (Err x) fault source tokens bytes a b u v h w is =
      (bytes, h.accepted, subst (λ ts. BeginsWith u v (token_lines name ts)) h.same w)
