-- One more phrase.
use Rattle.std.proofs.Common.{◌≡◌, ◌<◌, ◌∙◌, [], ℕ, List, length, map, get_or, sym, ap, subst, string_bytes, arith}
use Rattle.std.specs.Prelude.{slice_index_or}
use Rattle.std.proofs.lemmas.List.{get_or-map, length-map}
use Rattle.lic_phrases.specs.Firsts.{bound_from}
use Rattle.lic_phrases.specs.Rewriting.{Phrase}
use Rattle.lic_phrases.specs.PhraseLists.{PhraseList, IsStored, phrases_in, phrase_of, with_added, key_texts, key_of}
use Rattle.lic_phrases.proofs.PhraseKeyLemmas.{strings_have_none, IsEntry-key_of, key_texts-key_of}
use Rattle.lic_phrases.proofs.PhraseListLemmas.{IsStored-raised, IsStored-entry, phrases_in-insert, raised-needed}
use Rattle.lic_phrases.proofs.phrases.Phrases.add.Goals as goal

pub invariant_of-self-2 : goal.invariant_of-self-2
invariant_of-self-2 c =
    let fields = c.self.inside in
    let spellings = map string_bytes fields.spellings.items in
    let old = bound_from fields.most_from in
    let new = bound_from c.raise.new.self in
    let texts = map string_bytes c.args.texts.now in
    let none = strings_have_none c.args.texts.now in
    let key = c.in_ok-key.key in
    let is_key_of : key.items ≡ key_of texts = c.in_ok-key.ensures in
    let back : key_texts key.items ≡ texts = ap key_texts is_key_of ∙ key_texts-key_of texts none in
    let as_many = length-map c.args.texts.now string_bytes in
    let known : c.args.class < length spellings = omega (arith, c.requires.known, ap (λ v. length v.spellings) c.self.view_is) in
    let entry = IsEntry-key_of (length spellings) key.items texts c.args.class none is_key_of
    (omega (arith, as_many, c.requires.some)) (omega (arith, as_many, c.requires.few)) known in
    let first = c.as_bytes.result.now in
    let count = length c.args.texts.now in
    let first_is : get_or (key_texts key.items) 0 first ≡ first =
    ap (λ l. get_or l 0 first) back
    ∙ get_or-map string_bytes c.args.texts.now 0 c.index-texts-0.result first c.requires.some
    ∙ ap string_bytes (sym c.index-texts-0.is) ∙ sym c.as_bytes.ensures.value in
    let raised = c.in_ok-raise.ensures.raised in
    subst (λ entries. IsStored (λ k. k.items) entries spellings new) (sym c.in_ok-insert.ensures.entries)
    (IsStored-entry (λ k. k.items) fields.classes.entries spellings new key c.args.class
    (IsStored-raised (λ k. k.items) fields.classes.entries spellings first count old new raised c.self.invariant)
    entry
    (raised-needed first count old new raised (phrase_of spellings key.items c.args.class) entry.some first_is (ap length back ∙ as_many)))

pub invariant_of-self-in_err-insert : goal.invariant_of-self-in_err-insert
invariant_of-self-in_err-insert c =
    let fields = c.self.inside in
    let spellings = map string_bytes fields.spellings.items in
    let old = bound_from fields.most_from in
    let new = bound_from c.raise.new.self in
    subst (λ entries. IsStored (λ k. k.items) entries spellings new) (sym c.in_err-insert.ensures.err)
    (IsStored-raised (λ k. k.items) fields.classes.entries spellings c.as_bytes.result.now (length c.args.texts.now) old new c.in_ok-raise.ensures.raised
    c.self.invariant)

pub returns-clause-added : goal.returns-clause-added
returns-clause-added c =
    let fields = c.self.inside in
    let spellings = map string_bytes fields.spellings.items in
    let texts = map string_bytes c.args.texts.now in
    let none = strings_have_none c.args.texts.now in
    let key = c.in_ok-key.key in
    let is_key_of : key.items ≡ key_of texts = c.in_ok-key.ensures in
    let back : key_texts key.items ≡ texts = ap key_texts is_key_of ∙ key_texts-key_of texts none in
    let as_many = length-map c.args.texts.now string_bytes in
    let known : c.args.class < length spellings = omega (arith, c.requires.known, ap (λ v. length v.spellings) c.self.view_is) in
    let entry = IsEntry-key_of (length spellings) key.items texts c.args.class none is_key_of
    (omega (arith, as_many, c.requires.some)) (omega (arith, as_many, c.requires.few)) known in
    let with_phrases : List Phrase → PhraseList = λ words. record { phrases = words; spellings = spellings } in
    let with_texts : List (List ℕ) → PhraseList =
    λ l. record {
      phrases = with_added (phrases_in (λ k. k.items) spellings fields.classes.entries)
          (record { texts = l; spelling = slice_index_or spellings c.args.class [] });
      spellings = spellings;
    } in
    let with_phrase : PhraseList → PhraseList =
    λ v. record v {
      phrases = with_added v.phrases
          (record { texts = texts; spelling = slice_index_or v.spellings c.args.class [] });
    } in
    ap (λ entries. with_phrases (phrases_in (λ k. k.items) spellings entries)) c.in_ok-insert.ensures.entries
    ∙ ap with_phrases (phrases_in-insert (λ k. k.items)
    (length spellings) spellings fields.classes.entries key c.args.class c.self.invariant.entered entry.is_key)
    ∙ ap with_texts back
    ∙ ap with_phrase c.self.view_is
