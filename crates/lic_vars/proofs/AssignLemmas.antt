-- The values of the least record are those of a least derivation.
use Rattle.std.proofs.Common.{◌≡◌, ℕ, ◌+◌, ◌-◌, ◌<◌, ◌≤◌, inl, inr, ◌↔◌, List, [], ◌∷◌, ◌++◌, length, get_or, map, drop, chars, Some, slice_get, sym, ap, ◌∙◌, subst, arith, append_assoc}
use Rattle.std.proofs.lemmas.List.{map-append, take_all, length-take, length-drop}
use Rattle.std.proofs.lemmas.Option.{get_or_from_slice_get}
use Rattle.std.specs.List.{slice_range}
use Rattle.lic_words.specs.Words.{Word}
use Rattle.lic_words.specs.Spelling.{Spells}
use Rattle.lic_norm.specs.Tokens.{TokenValue}
use Rattle.lic_norm.specs.Places.{place_end}
use Rattle.lic_tokens.specs.declared.token.Span.{Span}
use Rattle.lic_places.specs.Places.{AreTexts}
use Rattle.lic_places.specs.Reads.{BeginsAt, Reads}
use Rattle.lic_places.proofs.TieRange.{spelling_is_read}
use Rattle.lic_places.proofs.TokenPlaces.{place_end-last, place_start-first}
use Rattle.lic_markup.specs.declared.part.Part.{Part}
use Rattle.lic_set.specs.Sets.{Known}
use Rattle.lic_set.specs.Matches.{IsMatch, letters_between}
use Rattle.lic_set.specs.declared.triple.Triple.{Triple}
use Rattle.lic_vars.specs.Values.{Assigned, letter_spans, nodes_of, AreValues}
use Rattle.lic_vars.specs.Moves.{Move, moves}
use Rattle.lic_vars.specs.Making.{CanMake, LeastOf}
use Rattle.lic_vars.specs.Recorded.{recorded}
use Rattle.lic_vars.specs.Cuts.{ReadsOn, moves_of, start}
use Rattle.lic_vars.specs.Assigners.{AssignerValue, AreInstructionsOf}
use Rattle.lic_vars.specs.Views.{value_of}
use Rattle.lic_vars.specs.declared.instructions.Instruction.{Instruction}
use Rattle.lic_vars.specs.declared.values.Value.{Value}
use Rattle.lic_vars.proofs.MakingLemmas.{can-make, least-derivation}
use Rattle.lic_vars.proofs.ValueLemmas.{choice-recorded}
use Rattle.lic_vars.proofs.DescribedLemmas.{derivation-of-word}

-- ---- what is read from the first place is what the tokens spell

-- the text begins at place 0
begins-zero : (tokens : List TokenValue) (p : ℕ) → 0 < length tokens → BeginsAt tokens 0 p → p ≡ 0
begins-zero tokens p some (inl same) = same ∙ place_start-first tokens some
begins-zero tokens p some (inr next) = absurd (omega (arith, next.0, place_start-first tokens some))

pub read-spelled : (tokens : List TokenValue) (w : Word) → AreTexts tokens → 0 < length tokens → ReadsOn tokens start w ↔ Spells w (map (λ t. chars t.text) tokens)
read-spelled tokens w are some =
    let last = length tokens - 1 in
    let end = place_end-last tokens last (omega arith) in
    let all : slice_range tokens 0 (last + 1) ≡ tokens = take_all (last + 1 - 0) tokens (omega arith) in
    let law = spelling_is_read tokens 0 last w are (omega arith) (omega arith) in (
      λ reads. subst (λ (ts : List TokenValue). Spells w (map (λ t. chars t.text) ts)) all
          (law.1 (0, inl (sym (place_start-first tokens some)), subst (λ q. Reads tokens 0 w q) (sym end) reads)),
      λ spells.
          let from = law.0 (subst (λ (ts : List TokenValue). Spells w (map (λ t. chars t.text) ts)) (sym all) spells) in
          subst (λ q. Reads tokens 0 w q) end (subst (λ p. Reads tokens p w (place_end tokens last)) (begins-zero tokens from.0 some from.1) from.2),
    )

-- the tokens of a match
pub tokens-of : (tokens part : List TokenValue) (first last count : ℕ) → first ≤ last → count ≡ last - first + 1 → part ≡ slice_range tokens first (first + count)
    → part ≡ slice_range tokens first (last + 1)
tokens-of tokens part first last count order is same =
    let end : first + count ≡ last + 1 = omega (arith, is) in
    same ∙ ap (λ n. slice_range tokens first n) end

pub some-tokens : (tokens part : List TokenValue) (first last : ℕ) → first ≤ last → last < length tokens → part ≡ slice_range tokens first (last + 1) → 0 < length part
some-tokens tokens part first last order within same =
    omega (arith, ap length same, length-take (last + 1 - first) (drop first tokens), length-drop first tokens)

-- ---- the values of the least record

pub assigned : (set : List Known) (tokens part : List TokenValue) (t : Triple) (known : Known) (instructions : List Instruction)
    (letters : List Span) (r : List ℕ) (values : List Assigned) → slice_get set t.template ≡ Some known → moves_of instructions ≡ moves (nodes_of known)
    → AreTexts part → 0 < length part → part ≡ slice_range tokens t.first (t.last + 1)
    → letters ≡ letter_spans (slice_range tokens t.first (t.last + 1)) → LeastOf (moves_of instructions) (ReadsOn part start) r
    → values ≡ recorded 0 (moves_of instructions) r letters → AreValues set tokens t values
assigned set tokens part t known instructions letters r values number m are some same s l v =
    let ts : List (List ℕ) = letters_between tokens t.first t.last in
    let least : LeastOf (moves (nodes_of known)) (ReadsOn part start) r = subst (λ (x : List Move). LeastOf x (ReadsOn part start) r) m l in
    let d = least-derivation (nodes_of known) ts (ReadsOn part start) r
    (λ w. subst (λ (x : List TokenValue). ReadsOn part start w ↔ Spells w (map (λ t. chars t.text) x)) same (read-spelled part w are some)) least in
    record {
      known = known;
      number = number;
      derivation = d.0;
      least = d.1;
      same = v ∙ ap (λ (x : List Move). recorded 0 x r letters) m ∙ ap (λ (x : List Span). recorded 0 (moves (nodes_of known)) r x) s
          ∙ ap (λ (x : List ℕ). recorded 0 (moves (nodes_of known)) x (letter_spans (slice_range tokens t.first (t.last + 1)))) (sym d.2)
          ∙ sym (choice-recorded (nodes_of known) d.0.choice (letter_spans (slice_range tokens t.first (t.last + 1))));
    }

-- a match can be made by the instructions of its template
pub match-can : (set : List Known) (tokens part : List TokenValue) (t : Triple) (known : Known) (instructions : List Instruction) → IsMatch set tokens t
    → slice_get set t.template ≡ Some known → moves_of instructions ≡ moves (nodes_of known) → AreTexts part → 0 < length part
    → part ≡ slice_range tokens t.first (t.last + 1) → CanMake (moves_of instructions) (ReadsOn part start)
match-can set tokens part t known instructions h number m are some same =
    let the_same : h.known ≡ known = let e = h.number in cc in
    let ts : List (List ℕ) = letters_between tokens t.first t.last in
    let here : CanMake (moves (nodes_of h.known)) (ReadsOn part start) =
    can-make (nodes_of h.known) ts (ReadsOn part start)
    (λ w. subst (λ (x : List TokenValue). ReadsOn part start w ↔ Spells w (map (λ t. chars t.text) x)) same (read-spelled part w are some))
    (derivation-of-word (nodes_of h.known) ts (h.described.1, h.described.2, h.described.3)) in
    subst (λ (x : List Move). CanMake x (ReadsOn part start)) (sym m)
    (subst (λ (k : Known). CanMake (moves (nodes_of k)) (ReadsOn part start)) the_same here)

-- the parts of the template of a match
pub parts-of : (set : List Known) (k : ℕ) (known : Known) (parts : List Part) → slice_get set k ≡ Some known →
    ((d : Known) → parts ≡ (get_or set k d).template.parts) → parts ≡ known.template.parts
parts-of set k known parts e h = h known ∙ ap (λ (x : Known). x.template.parts) (get_or_from_slice_get set k known known e)

-- an assigner's instructions are those of the template of its number
pub moves-of : (set : List Known) (k : ℕ) (instructions : List Instruction) (v : AssignerValue) (number : ℕ) (known : Known) → AreInstructionsOf set k instructions →
    record { set = set; template = k } ≡ v → number ≡ v.template → slice_get v.set number ≡ Some known → moves_of instructions ≡ moves (nodes_of known)
moves-of set k instructions v number known are view same is =
    are.moves known (ap (λ (a : AssignerValue). slice_get a.set a.template) view ∙ ap (slice_get v.set) (sym same) ∙ is)

-- one value more
pub value-pushed : (a b : List Value) (x : Value) (rest : List Assigned) → b ≡ a ++ x ∷ [] → map value_of b ++ rest ≡ map value_of a ++ value_of x ∷ rest
value-pushed a b x rest e =
    ap (λ (s : List Value). map value_of s ++ rest) e ∙ ap (λ (s : List Assigned). s ++ rest) (map-append value_of a (x ∷ []))
    ∙ append_assoc (map value_of a) (value_of x ∷ []) rest
