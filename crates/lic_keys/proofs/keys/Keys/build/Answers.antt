-- One template more.
use Rattle.std.proofs.Common.{◌≡◌, ◌+◌, ℕ, List, [], ◌∷◌, ◌++◌, Bor, map, take, get_or, sym, ap, ◌∙◌, subst}
use Rattle.std.proofs.lemmas.List.{map-append, take_all, take_more}
use Rattle.lic_markup.specs.declared.part.Part.{Part}
use Rattle.lic_markup.specs.Parts.{TemplateValue}
use Rattle.lic_keys.specs.Keys.{AreKeysOf, HaveLetters, IsKeyOf}
use Rattle.lic_keys.proofs.KeysLemmas.{AreKeysOf-nil, AreKeysOf-push, have-letters, keys_of}
use Rattle.lic_keys.proofs.keys.Keys.build.Goals as goal

abbrev parts_in : List (Bor TemplateValue) → List (List Part)
parts_in templates = map (λ t. t.now.parts) templates

abbrev letters_in : List (Bor (List ℕ)) → List (List ℕ)
letters_in letters = map (λ text. text.now) letters

pub loop-template-init : goal.loop-template-init
loop-template-init c =
    subst (λ texts. AreKeysOf [] (keys_of texts (letters_in c.in_ok-letters.letters.items))) (sym c.in_ok-texts.ensures.items)
    (subst (λ letters. AreKeysOf [] (keys_of [] (letters_in letters))) (sym c.in_ok-letters.ensures.items) AreKeysOf-nil)

pub loop-template-preserved : goal.loop-template-preserved
loop-template-preserved c =
    let templates = c.args.templates.now in
    let i = c.loop-template.template-index in
    let one = get_or templates i c.template-item.result in
    let text = c.key_of-text.result.0 in
    let own = c.key_of-text.result.1 in
    let is : IsKeyOf one.now.parts text own.now = subst (λ t. IsKeyOf t.now.parts text own.now) c.template-item.is c.key_of-text.ensures in
    let more : parts_in (take (i + 1) templates) ≡ parts_in (take i templates) ++ one.now.parts ∷ [] =
    ap parts_in (take_more templates i c.template-item.result c.loop-template-test.true) ∙ map-append (λ t. t.now.parts) (take i templates) (one ∷ []) in
    let letters : letters_in c.push-in-loop-template.new.self.items ≡ letters_in c.loop-template.letters.items ++ own.now ∷ [] =
    ap letters_in c.in_ok-push-2.ensures.items ∙ map-append (λ l. l.now) c.loop-template.letters.items (own ∷ []) in
    subst (λ ts. AreKeysOf ts (keys_of c.push.new.self.items (letters_in c.push-in-loop-template.new.self.items))) (sym more)
    (subst (λ ls. AreKeysOf (parts_in (take i templates) ++ one.now.parts ∷ []) (keys_of c.push.new.self.items ls)) (sym letters)
    (subst (λ ts. AreKeysOf (parts_in (take i templates) ++ one.now.parts ∷ []) (keys_of ts (letters_in c.loop-template.letters.items ++ own.now ∷ []))) (sym c.in_ok-push.ensures.items)
    (AreKeysOf-push (parts_in (take i templates)) c.loop-template.texts.items (letters_in c.loop-template.letters.items) one.now.parts text own.now
    c.loop-template.invariant is)))

pub invariant_of-result : goal.invariant_of-result
invariant_of-result c =
    subst (HaveLetters c.loop-template.texts.items) (sym (c.in_ok-literals.ensures ∙ ap letters_in c.deref.ensures.value))
    (have-letters (parts_in (take c.loop-template.template-index c.args.templates.now)) c.loop-template.texts.items (letters_in c.loop-template.letters.items)
    c.loop-template.invariant)

pub returns : goal.returns
returns c =
    let templates = c.args.templates.now in
    let i = c.loop-template.template-index in
    let texts = c.loop-template.texts.items in
    let all : AreKeysOf (parts_in templates) (keys_of texts (letters_in c.loop-template.letters.items)) =
    subst (λ ts. AreKeysOf (parts_in ts) (keys_of texts (letters_in c.loop-template.letters.items))) (take_all i templates c.loop-template-test.false) c.loop-template.invariant in
    subst (λ ls. AreKeysOf (parts_in templates) (keys_of texts ls)) (sym (c.in_ok-literals.ensures ∙ ap letters_in c.deref.ensures.value)) all
