use Rattle.std.proofs.Common.{◌≡◌, ◌+◌, ◌<◌, ◌≤◌, [], ◌∷◌, ◌++◌, ℕ, List, length, get_or, take, string_bytes, sym, ap, ap₂, subst, ◌∙◌, arith, length-append, take_all}
use Rattle.std.proofs.lemmas.Iterator.Adapters.{YieldsList-from_vec}
use Rattle.std.proofs.lemmas.Iterator.Consumers.{YieldsList-turn, YieldsList-end}
use Rattle.std.proofs.lemmas.List.{length-map, length-take-le}
use Rattle.lic_phrases.specs.declared.words.phrase.ListedPhrase.{ListedPhrase}
use Rattle.lic_phrases.specs.Keys.{texts_in}
use Rattle.lic_phrases.specs.Listed.{phrases_in, spellings_in, with_representatives}
use Rattle.lic_phrases.specs.PhraseLists.{with_added}
use Rattle.lic_phrases.specs.Rewriting.{Phrase}
use Rattle.lic_phrases.proofs.RepresentativeLemmas.{length-with_representatives, word-added, head_spelling}
use Rattle.lic_phrases.proofs.ListedLemmas.{mapped_at, take-next}
use Rattle.lic_phrases.proofs.words.with_representatives.Goals as goal

texts_at : (listed : List ListedPhrase) (k : ℕ) (p : ListedPhrase) → (k < length listed) × (p ≡ get_or listed k p)
    → (k < length (phrases_in listed)) × (texts_in p.texts.items ≡ get_or (phrases_in listed) k [])
texts_at listed k p here = mapped_at (λ (q : ListedPhrase). texts_in q.texts.items) listed k p [] here.0 here.1

spelling_at : (listed : List ListedPhrase) (k : ℕ) (p : ListedPhrase) → (k < length listed) × (p ≡ get_or listed k p)
    → (k < length (spellings_in listed)) × (string_bytes p.spelling ≡ get_or (spellings_in listed) k [])
spelling_at listed k p here = mapped_at (λ (q : ListedPhrase). string_bytes q.spelling) listed k p [] here.0 here.1

pub add_listed-requires : goal.add_listed-requires
add_listed-requires c =
    let listed = c.args.listed.items in
    let spellings = spellings_in listed in
    let heads = c.args.heads.now in
    let yielded = c.loop-phrase.yielded in
    let phrase = c.in-Some.phrase in
    let given = c.into_iter-phrase-iterator.ensures.into_iter_gives in
    let turn = YieldsList-turn (YieldsList-from_vec {s = c.into_iter-phrase-iterator.result} listed given.0
    (given.1 ∙ c.args.listed.ok.0)) yielded c.loop-phrase.phrase-iterator c.loop-phrase.yielded_by c.next.result c.next.new.self phrase c.in-Some.is c.next.ensures.steps in
    let here = texts_at listed (length yielded) phrase turn in
    let spelling = spelling_at listed (length yielded) phrase turn in
    let many : length phrase.texts.items ≡ length (get_or (phrases_in listed) (length yielded) []) =
    sym (length-map phrase.texts.items string_bytes) ∙ ap length here.1 in
    let number : length c.loop-phrase.phrases.spellings ≡ length yielded =
    ap length c.loop-phrase.invariant.classes ∙ length-take-le (length yielded) spellings (omega (arith, spelling.0)) in
    record {
      some = subst (λ n. 0 < n) (sym many) (c.requires.some (length yielded) here.0);
      few = subst (λ n. n ≤ 8) (sym many) (c.requires.few (length yielded) here.0);
      within = subst (λ n. n < length heads) (sym number) (subst (λ n. length yielded < n) (sym c.requires.as_many) here.0);
      low = subst (λ n. get_or heads n 0 ≤ n) (sym number) (c.requires.low (length yielded) here.0);
    }

pub loop-phrase-preserved : goal.loop-phrase-preserved
loop-phrase-preserved c =
    let listed = c.args.listed.items in
    let phrases = phrases_in listed in
    let spellings = spellings_in listed in
    let heads = c.args.heads.now in
    let words = with_representatives phrases spellings heads in
    let yielded = c.loop-phrase.yielded in
    let phrase = c.in-Some.phrase in
    let old = c.loop-phrase.phrases.spellings in
    let new = old ++ string_bytes phrase.spelling ∷ [] in
    let given = c.into_iter-phrase-iterator.ensures.into_iter_gives in
    let turn = YieldsList-turn (YieldsList-from_vec {s = c.into_iter-phrase-iterator.result} listed given.0
    (given.1 ∙ c.args.listed.ok.0)) yielded c.loop-phrase.phrase-iterator c.loop-phrase.yielded_by c.next.result c.next.new.self phrase c.in-Some.is c.next.ensures.steps in
    let here = texts_at listed (length yielded) phrase turn in
    let spelling = spelling_at listed (length yielded) phrase turn in
    let more : length (yielded ++ phrase ∷ []) ≡ length yielded + 1 = length-append yielded (phrase ∷ []) in
    let number : length old ≡ length yielded =
    ap length c.loop-phrase.invariant.classes ∙ length-take-le (length yielded) spellings (omega (arith, spelling.0)) in
    let classes : new ≡ take (length (yielded ++ phrase ∷ [])) spellings =
    ap (λ l. l ++ string_bytes phrase.spelling ∷ []) c.loop-phrase.invariant.classes
    ∙ take-next spellings yielded phrase (string_bytes phrase.spelling) [] spelling.0 spelling.1 in
    let of_head : get_or new (get_or heads (length old) 0) [] ≡ get_or spellings (get_or heads (length yielded) 0) [] =
    ap (λ n. get_or new (get_or heads n 0) []) number
    ∙ ap (λ l. get_or l (get_or heads (length yielded) 0) []) (classes ∙ ap (λ n. take n spellings) more)
    ∙ head_spelling phrases spellings heads c.requires.as_many c.requires (length yielded) here.0 in
    let as_phrase : List (List ℕ) → List ℕ → Phrase = λ texts s. record { texts = texts; spelling = s } in
    record {
      classes = c.in_ok-add_listed.ensures.classes ∙ classes;
      words =
          c.in_ok-add_listed.ensures.words
          ∙ ap₂ with_added c.loop-phrase.invariant.words (ap₂ as_phrase here.1 of_head)
          ∙ word-added phrases spellings heads c.requires.as_many c.requires (length yielded) here.0
          ∙ ap (λ n. take n words) (sym more);
    }

pub returns : goal.returns
returns c =
    let listed = c.args.listed.items in
    let phrases = phrases_in listed in
    let spellings = spellings_in listed in
    let words = with_representatives phrases spellings c.args.heads.now in
    let yielded = c.loop-phrase.yielded in
    let given = c.into_iter-phrase-iterator.ensures.into_iter_gives in
    let all = YieldsList-end (YieldsList-from_vec {s = c.into_iter-phrase-iterator.result} listed given.0
    (given.1 ∙ c.args.listed.ok.0)) yielded c.loop-phrase.phrase-iterator c.loop-phrase.yielded_by c.next.result c.next.new.self c.in-None.is c.next.ensures.steps in
    c.loop-phrase.invariant.words
    ∙ take_all (length yielded) words
    (omega (
      arith,
      all.1,
      length-with_representatives phrases spellings c.args.heads.now c.requires.as_many,
      length-map listed (λ (p : ListedPhrase). texts_in p.texts.items),
    ))
