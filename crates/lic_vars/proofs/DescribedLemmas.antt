-- A template describes tokens exactly where they have a derivation.
use Rattle.std.proofs.Common.{◌≡◌, ℕ, List, [], ◌++◌, Some, None, inl, inr, refl, sym, ap, ◌∙◌, subst}
use Rattle.std.specs.Str.{chars}
use Rattle.lic_words.specs.Words.{Word}
use Rattle.lic_words.specs.Expressions.{Language}
use Rattle.lic_words.specs.Spelling.{Spells}
use Rattle.lic_words.proofs.Languages.{letters_sound, letters_complete}
use Rattle.lic_markup.specs.Parts.{Nodes, no_node, one_more}
use Rattle.lic_markup.specs.Parts as parts
use Rattle.lic_markup.specs.Meaning.{nodes_words}
use Rattle.lic_vars.specs.Derivations.{Choice, word_of, IsAllowed, Derivation}

-- a word of the template is the word of some choice
choice_of : (ns : Nodes) (w : Word) → Language (nodes_words ns) w → (d : Choice ns) × IsAllowed ns d × (word_of ns d ≡ w)
choice_of no_node w h = (tt, tt, sym h)
choice_of (one_more (parts.letters txt) rest) w (u, v, p, q, e) =
    let t = choice_of rest v q in
    (t.0, t.1, ap (λ x. chars txt ++ x) t.2 ∙ ap (λ x. x ++ v) (sym (letters_sound (chars txt) u p)) ∙ sym e)
choice_of (one_more (parts.variable name original pattern) rest) w (u, v, p, q, e) =
    let t = choice_of rest v q in
    ((u, t.0), (p.0, p.1, t.1), ap (λ x. u ++ x) t.2 ∙ sym e)
choice_of (one_more (parts.optional body) rest) w (u, v, inl p, q, e) =
    let t = choice_of rest v q in
    ((None, t.0), t.1, t.2 ∙ ap (λ x. x ++ v) (sym p) ∙ sym e)
choice_of (one_more (parts.optional body) rest) w (u, v, inr p, q, e) =
    let b = choice_of body u p in
    let t = choice_of rest v q in
    ((Some b.0, t.0), (b.1, t.1), ap (λ x. word_of body b.0 ++ x) t.2 ∙ ap (λ x. x ++ v) b.2 ∙ sym e)

-- the word of a choice is a word of the template
word_of_choice : (ns : Nodes) (d : Choice ns) → IsAllowed ns d → Language (nodes_words ns) (word_of ns d)
word_of_choice no_node d h = refl
word_of_choice (one_more (parts.letters txt) rest) d h =
    (chars txt, word_of rest d, letters_complete (chars txt), word_of_choice rest d h, refl)
word_of_choice (one_more (parts.variable name original pattern) rest) (u, d) h =
    (u, word_of rest d, (h.0, h.1), word_of_choice rest d h.2, refl)
word_of_choice (one_more (parts.optional body) rest) (None, d) h = ([], word_of rest d, inl refl, word_of_choice rest d h, refl)
word_of_choice (one_more (parts.optional body) rest) (Some b, d) h =
    (word_of body b, word_of rest d, inr (word_of_choice body b h.0), word_of_choice rest d h.1, refl)

pub derivation-of-word : (ns : Nodes) (ts : List (List ℕ)) → (w : Word) × Language (nodes_words ns) w × Spells w ts → Derivation ns ts
derivation-of-word ns ts h =
    let t = choice_of ns h.0 h.1 in
    record { choice = t.0; allowed = t.1; spells = subst (λ (x : Word). Spells x ts) (sym t.2) h.2 }

pub word-of-derivation : (ns : Nodes) (ts : List (List ℕ)) → Derivation ns ts → (w : Word) × Language (nodes_words ns) w × Spells w ts
word-of-derivation ns ts d = (word_of ns d.choice, word_of_choice ns d.choice d.allowed, d.spells)
