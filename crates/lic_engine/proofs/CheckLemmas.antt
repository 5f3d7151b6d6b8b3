-- Whether templates describe their original texts, and the lines on them.
use Rattle.std.proofs.Common.{◌≡◌, ℕ, ◌+◌, ◌-◌, ◌<◌, ◌≤◌, ◌↔◌, List, [], ◌∷◌, ◌++◌, take, length, get_or, Bool, true, false, ◌&&◌, Option, Some, Result, Ok, Err, IfOk, OnErr, refl, sym, ap, ◌∙◌, subst, arith, IsTrue}
use Rattle.std.specs.List.{flat_map, list_all, slice_get, slice_range}
use Rattle.std.specs.Io.KnownBytes.{Appends}
use Rattle.std.proofs.lemmas.List.{take_all, take_more}
use Rattle.std.proofs.lemmas.List.Folds.{list_all-append}
use Rattle.std.proofs.lemmas.Option.{slice_get-get_or}
use Rattle.lic_kind.specs.LineRules.{LineRules}
use Rattle.lic_words.specs.Describing.{IsDescribed}
use Rattle.lic_norm.specs.Tokens.{TokenValue}
use Rattle.lic_phrases.specs.Rewriting.{Phrase}
use Rattle.lic_set.specs.Sets.{Known, words_of}
use Rattle.lic_set.specs.Matches.{all_letters, IsMatch, letters_between}
use Rattle.lic_set.specs.declared.triple.Triple.{Triple}
use Rattle.lic_stream.specs.Stream.{BeginsWith}
use Rattle.lic_report.specs.Checking.{Checked, check_line, known_of, says_yes, DescribesItsOriginal, IsVerdict, IsCheckReport}
use Rattle.lic_stream.proofs.Written.{begins_empty}
use Rattle.lic_engine.proofs.DoneLemmas.{AreDone, done_nothing, done_more, done_whole, done_begins_within}

-- ---- one template

-- the range of all tokens
whole_range : (tokens : List TokenValue) (last : ℕ) → last + 1 ≡ length tokens → letters_between tokens 0 last ≡ all_letters tokens
whole_range tokens last e =
    let enough : length tokens ≤ (last + 1) - 0 = omega arith in
    let same : slice_range tokens 0 (last + 1) ≡ tokens = take_all ((last + 1) - 0) tokens enough in
    ap all_letters same

module _ (set : List Known) (tokens : List TokenValue) (k last : ℕ) (d : Known) where
  abbrev pub whole : Triple
  whole = record { first = 0; last = last; template = k }

  -- a match of all tokens
  pub described_whole : k < length set → last + 1 ≡ length tokens
      → IsMatch set tokens whole ↔ IsDescribed (words_of (get_or set k d)) (all_letters tokens)
  described_whole within e =
      let number : slice_get set k ≡ Some (get_or set k d) = slice_get-get_or set k d within in
      let letters : letters_between tokens 0 last ≡ all_letters tokens = whole_range tokens last e in (
        λ m.
            let known : m.known ≡ get_or set k d = let same : Some m.known ≡ Some (get_or set k d) = sym m.number ∙ number in cc in
            subst (λ ts. IsDescribed (words_of (get_or set k d)) ts) letters
            (subst (λ t. IsDescribed (words_of t) (letters_between tokens 0 last)) known m.described),
        λ described.
            record {
              order = omega arith;
              within = omega arith;
              known = get_or set k d;
              number = number;
              described = subst (λ ts. IsDescribed (words_of (get_or set k d)) ts) (sym letters) described;
            },
      )

  pub described_all : {E : Type 0} (r : Result Bool E) → k < length set → last + 1 ≡ length tokens
      → IfOk r (λ yes. IsTrue yes ↔ IsMatch set tokens whole)
      → IfOk r (λ yes. IsTrue yes ↔ IsDescribed (words_of (get_or set k d)) (all_letters tokens))
  described_all (Ok x) within e h =
      let is = described_whole within e in
      (λ yes. is.0 (h.0 yes), λ described. h.1 (is.1 described))
  described_all (Err x) within e h = tt

one_answer : (a b : Bool) → (a ≡ true → b ≡ true) → (b ≡ true → a ≡ true) → a ≡ b
one_answer true b to from = sym (to refl)
one_answer false true to from = from refl
one_answer false false to from = refl

-- ---- the lines

pub one_checked : (rules : LineRules) (words : List Phrase) (x y : Checked) → known_of x ≡ known_of y
    → IsVerdict rules words x → IsVerdict rules words y → x ≡ y
one_checked rules words x y e h k =
    let same : x.yes ≡ y.yes =
    one_answer x.yes y.yes (λ yes. k.1 (subst (λ t. DescribesItsOriginal rules words t) e (h.0 yes))) (λ yes.
    h.1 (subst (λ t. DescribesItsOriginal rules words t) (sym e) (k.0 yes))) in
    λ i. record { known = e i; yes = same i }

-- verdicts on these templates, some of their lines put and the others gathered
pub record AreChecked (rules : LineRules) (words : List Phrase) (old new : Option (List ℕ)) (gathered : List ℕ) (keys : List Known) (all : Bool) : Type 0 where
  pub done : AreDone Known Checked known_of (IsVerdict rules words) check_line old new gathered keys
  pub all_yes : all ≡ list_all says_yes done.things

and_true : (b : Bool) → b ≡ (b && true)
and_true true = refl
and_true false = refl

list_all-push : (xs : List Checked) (x : Checked) → (list_all says_yes xs && x.yes) ≡ list_all says_yes (xs ++ x ∷ [])
list_all-push xs x = ap (λ b. list_all says_yes xs && b) (and_true x.yes) ∙ sym (list_all-append says_yes xs (x ∷ []))

module _ (rules : LineRules) (words : List Phrase) where
  pub checked_nothing : (a : Option (List ℕ)) → AreChecked rules words a a [] [] true
  checked_nothing a = record { done = done_nothing Known Checked known_of (IsVerdict rules words) check_line a; all_yes = refl }

  -- one line more is gathered
  pub checked_more : (a b : Option (List ℕ)) (gathered more : List ℕ) (set : List Known) (k : ℕ) (d : Known) (all says : Bool)
      → AreChecked rules words a b gathered (take k set) all → k < length set → IsTrue says ↔ DescribesItsOriginal rules words (get_or set k d)
      → more ≡ gathered ++ check_line (record { known = get_or set k d; yes = says })
      → AreChecked rules words a b more (take (k + 1) set) (all && says)
  checked_more a b gathered more set k d all says h within verdict line =
      let checked : Checked = record { known = get_or set k d; yes = says } in
      let next : AreChecked rules words a b more (take k set ++ get_or set k d ∷ []) (all && says) =
      record {
        done = done_more Known Checked known_of (IsVerdict rules words) check_line a b gathered more (take k set) checked h.done verdict line;
        all_yes = ap (λ x. x && says) h.all_yes ∙ list_all-push h.done.things checked;
      } in
      subst (λ keys. AreChecked rules words a b more keys (all && says)) (sym (take_more set k d within)) next

  -- nothing is a beginning of each report
  pub nothing_begins : {A E : Type 0} (r : Result A E) (set : List Known) (a : Option (List ℕ))
      → OnErr r ((checked : List Checked) (lines : List ℕ) → IsCheckReport rules set words checked lines → BeginsWith a a lines)
  nothing_begins (Ok x) set a = tt
  nothing_begins (Err x) set a = λ checked lines report. begins_empty a lines

  -- what was put, and then a beginning of what is gathered, is a beginning of each report
  pub check_begins_within : (a b c : Option (List ℕ)) (gathered : List ℕ) (set keys rest : List Known) (all : Bool)
      → AreChecked rules words a b gathered keys all
      → BeginsWith b c gathered → set ≡ keys ++ rest
      → (checked : List Checked) (lines : List ℕ) → IsCheckReport rules set words checked lines → BeginsWith a c lines
  check_begins_within a b c gathered set keys rest all h p split = λ checked lines report.
      subst (λ l. BeginsWith a c l) (sym report.lines)
      (done_begins_within Known Checked known_of (IsVerdict rules words) check_line
      (one_checked rules words) a b c gathered keys rest set checked h.done p split report.templates report.verdicts)

  -- the lines of all templates
  pub check_whole : (a b c : Option (List ℕ)) (gathered : List ℕ) (set keys : List Known) (all : Bool)
      → AreChecked rules words a b gathered keys all → Appends b c gathered → keys ≡ set
      → (checked : List Checked) × (lines : List ℕ) × IsCheckReport rules set words checked lines × Appends a c lines × (all ≡ list_all says_yes checked)
  check_whole a b c gathered set keys all h p e =
      let whole = done_whole Known Checked known_of (IsVerdict rules words) check_line a b c gathered keys h.done p in (
        h.done.things,
        flat_map check_line h.done.things,
        record { templates = h.done.belong ∙ e; verdicts = h.done.good; lines = refl },
        whole.3,
        h.all_yes,
      )
