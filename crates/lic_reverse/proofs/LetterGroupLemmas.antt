-- Places in groups by the letters before them: what one entry more changes, and what the groups of a list of spans have.
use Rattle.std.proofs.Common.{◌≡◌, ◌⊎◌, ◌↔◌, ℕ, ◌+◌, ◌<◌, ◌≤◌, List, [], ◌∷◌, ◌++◌, Vec, Global, length, map, take, get_or, set, inl, inr, refl, sym, ap, arith, subst, ◌∙◌}
use Rattle.std.specs.Prelude.{Contains}
use Rattle.std.proofs.Math.Logic.{⊎_elim}
use Rattle.std.proofs.Math.ListN.{length-set}
use Rattle.std.proofs.lemmas.Bool.{cases_eq, cases_lt}
use Rattle.std.proofs.lemmas.List.{get_or-map, get_or-set_other, get_or-set_same, get_or_append_left, get_or_past, get_or_push, length-map, length_push, map-append, map-set, take_all, take_more}
use Rattle.std.proofs.lemmas.List.Elements.{Contains-append_left, Contains-get_or, Contains-push, Contains-push_cases}
use Rattle.lic_words.specs.Words.{Word, blank}
use Rattle.lic_tokens.specs.Tokens.{TokenValue}
use Rattle.lic_places.specs.Places.{AreTexts, spelling_of}
use Rattle.lic_places.specs.Reads.{Reads}
use Rattle.lic_places.proofs.TokenPlaces.{spelling-utf8}
use Rattle.lic_spans.specs.Spans.{Holds}
use Rattle.lic_spans.specs.declared.span.PlaceSpan.{PlaceSpan}
use Rattle.lic_reverse.specs.declared.ways.groups.Entry.{Entry}
use Rattle.lic_view.specs.PlaceSets.{IsPlaceOf, Reaches}
use Rattle.lic_view.specs.LettersBefore.{IsLetterBefore}
use Rattle.lic_reverse.specs.LetterGroups.{AddsPlaces, AreGroupsOf, AreLastLetters, HasEntry, HasNone, HasPlaceWith, IsPieceOf, group, hash_before, hash_of, mixed, number_of}
use Rattle.lic_view.proofs.Placed.{Holds-among, Reaches-append, Reaches-nil}
use Rattle.lic_view.proofs.Back.{reads-parted}
use Rattle.lic_view.proofs.BlankLemmas.{held, holds-one}
use Rattle.lic_view.proofs.Numbers.{At, Below}
use Rattle.lic_view.proofs.LastLetters.{letter-one}
use Rattle.lic_reverse.proofs.PassingLemmas.{letter-read, place-one}

-- a span with a hash
abbrev pub entry_of : ℕ → PlaceSpan → Entry
entry_of hash span = record { hash = hash; span = span }

-- the entries of each list
abbrev pub items_of : List (Vec Entry Global) → List (List Entry)
items_of lists = map (λ list. list.items) lists

-- the list of a number is its group
pub group-read : (lists : List (Vec Entry Global)) (i : ℕ) (v : Vec Entry Global) → i < length lists → v ≡ get_or lists i v → group lists i ≡ v.items
group-read lists i v within is = get_or-map (λ list. list.items) lists i v [] within ∙ ap (λ v. v.items) (sym is)

-- ---- one entry more

module _ (lists : List (Vec Entry Global)) (i : ℕ) (was now : Vec Entry Global) (e : Entry) (within : i < length lists) (is : was ≡ get_or lists i was)
    (pushed : now.items ≡ was.items ++ e ∷ []) where
  abbrev before : List (List Entry)
  before = map (λ list. list.items) lists

  abbrev items : List Entry
  items = get_or before i []

  count : length before ≡ length lists
  count = length-map lists (λ list. list.items)

  whole : map (λ list. list.items) (set lists i now) ≡ set before i (items ++ e ∷ [])
  whole = map-set (λ list. list.items) lists i now
      ∙ ap (set before i) (pushed ∙ ap (λ xs. xs ++ e ∷ []) (sym (get_or-map (λ list. list.items) lists i was [] within ∙ ap (λ v. v.items) (sym is))))

  at : (j : ℕ) → group (set lists i now) j ≡ get_or (set before i (items ++ e ∷ [])) j []
  at j = ap (λ ls. get_or ls j []) whole

  here : group (set lists i now) i ≡ items ++ e ∷ []
  here = at i ∙ get_or-set_same before i (items ++ e ∷ []) [] (omega (arith, within, count))

  there : (j : ℕ) → (j ≡ i → ⊥) → group (set lists i now) j ≡ group lists j
  there j other = at j ∙ get_or-set_other before i j (items ++ e ∷ []) [] other

  kept : (j : ℕ) (x : Entry) → Contains (group lists j) x → Contains (group (set lists i now) j) x
  kept j x has = ⊎_elim
      (λ (same : j ≡ i). subst (λ n. Contains (group (set lists i now) n) x) (sym same)
      (subst (λ xs. Contains xs x) (sym here) (Contains-append_left items (e ∷ []) x (subst (λ n. Contains (group lists n) x) same has))))
      (λ (other : j ≡ i → ⊥). subst (λ xs. Contains xs x) (sym (there j other)) has)
      (cases_eq j i)

  sound : (j : ℕ) (x : Entry) → Contains (group (set lists i now) j) x → Contains (group lists j) x ⊎ (e ≡ x)
  sound j x has = ⊎_elim
      (λ (same : j ≡ i).
      elim (Contains-push_cases items e x (subst (λ xs. Contains xs x) here (subst (λ n. Contains (group (set lists i now) n) x) same has))) [
        | inl old ↦ inl (subst (λ n. Contains (group lists n) x) (sym same) old)
        | inr new ↦ inr new
      ])
      (λ (other : j ≡ i → ⊥). inl (subst (λ xs. Contains xs x) (there j other) has))
      (cases_eq j i)

  size : length (set lists i now) ≡ length lists
  size = length-set lists i now

  pub entry-kept : (hash : ℕ) (span : PlaceSpan) → HasEntry lists hash span → HasEntry (set lists i now) hash span
  entry-kept hash span has =
      subst (λ n. Contains (group (set lists i now) (number_of hash n)) (record { hash = hash; span = span })) (sym size)
      (kept (number_of hash (length lists)) (record { hash = hash; span = span }) has)

  pub entry-sound : (hash : ℕ) (span : PlaceSpan) → HasEntry (set lists i now) hash span → HasEntry lists hash span ⊎ (span ≡ e.span)
  entry-sound hash span has =
      elim (sound (number_of hash (length lists)) (record { hash = hash; span = span })
      (subst (λ n. Contains (group (set lists i now) (number_of hash n)) (record { hash = hash; span = span })) size has)) [
        | inl old ↦ inl old
        | inr new ↦ inr (sym (ap (λ (x : Entry). x.span) new))
      ]

  pub entry-new : (hash : ℕ) (span : PlaceSpan) → e ≡ record { hash = hash; span = span } → i ≡ number_of hash (length lists) → HasEntry (set lists i now) hash span
  entry-new hash span new number =
      subst (λ n. Contains (group (set lists i now) (number_of hash n)) (record { hash = hash; span = span })) (sym size)
      (subst (λ n. Contains (group (set lists i now) n) (record { hash = hash; span = span })) number
      (subst (λ xs. Contains xs (record { hash = hash; span = span })) (sym here)
      (subst (λ x. Contains (items ++ e ∷ []) x) new (Contains-push items e))))

-- ---- lists without an entry

abbrev pub AreEmpty : List (Vec Entry Global) → Type 0
AreEmpty lists = (j : ℕ) (x : Entry) → Contains (group lists j) x → ⊥

pub empty-first : (lists : List (Vec Entry Global)) → lists ≡ [] → AreEmpty lists
empty-first lists none j x has = nil (subst (λ ls. Contains (group ls j) x) none has)
  where
    nil : Contains (get_or {A = List Entry} [] j []) x → ⊥
    nil (i, within, is) = omega (arith, within)

pub empty-more : (lists new : List (Vec Entry Global)) (v : Vec Entry Global) → v.items ≡ [] → new ≡ lists ++ v ∷ [] → AreEmpty lists → AreEmpty new
empty-more lists new v none is empty j x has = by_case (cases_lt j (length lists))
  where
    count : length (items_of lists) ≡ length lists
    count = length-map lists (λ list. list.items)

    whole : Contains (get_or (items_of lists ++ v.items ∷ []) j []) x
    whole = subst (λ ls. Contains (get_or ls j []) x) (ap (map (λ list. list.items)) is ∙ map-append (λ list. list.items) lists (v ∷ [])) has

    by_case : (j < length lists) ⊎ (length lists ≤ j) → ⊥
    by_case (inl below) = empty j x (subst (λ xs. Contains xs x) (get_or_append_left (items_of lists) (v.items ∷ []) [] j (omega (arith, below, count))) whole)
    by_case (inr past) = by_end (cases_eq j (length lists))
      where
        nil : Contains {X = Entry} [] x → ⊥
        nil (i, within, same) = omega (arith, within)

        by_end : (j ≡ length lists) ⊎ (j ≡ length lists → ⊥) → ⊥
        by_end (inl same) = nil (subst (λ xs. Contains xs x) (get_or_push (items_of lists) v.items [] j (count ∙ sym same) ∙ none) whole)
        by_end (inr other) = nil (subst (λ xs. Contains xs x) (get_or_past (items_of lists ++ v.items ∷ []) j []
            (let size = length_push (items_of lists) v.items in omega (arith, size, count, past, other))) whole)

pub empty-none : (lists : List (Vec Entry Global)) → AreEmpty lists → HasNone lists
empty-none lists empty hash span has = empty (number_of hash (length lists)) (record { hash = hash; span = span }) has

-- ---- the last letter of a sequence

last-parted : (v : Word) → 0 < length v → (u : Word) × (c : ℕ) × (v ≡ u ++ c ∷ [])
last-parted [] some = absurd (omega (arith, some))
last-parted (c ∷ []) some = ([], c, refl)
last-parted (c ∷ d ∷ v) some = let more = last-parted (d ∷ v) (omega arith) in (c ∷ more.0, more.1, ap (λ x. c ∷ x) more.2)

hash-last : (hash : ℕ) (u : Word) (c : ℕ) → hash_before hash (u ++ c ∷ []) ≡ hash_before (mixed hash c) u
hash-last hash [] c = refl
hash-last hash (d ∷ u) c = ap (λ x. mixed x d) (hash-last hash u c)

-- ---- the sequences before a place

-- the letters of a sequence that were not looked at yet
pub record IsPending (tokens : List TokenValue) (first hash k : ℕ) (v : Word) (p : ℕ) : Type 0 where
  pub sequence : Word
  pub dark : (c : ℕ) → Contains sequence c → ¬ (c ≡ blank)
  pub some : 0 < length sequence
  pub few : length sequence + k ≤ 8
  pub reads : Reads tokens p sequence first
  pub is : hash_of v ≡ hash_before hash sequence

-- the place was added for each sequence of up to `k` letters
pub record AddsSequences (tokens : List TokenValue) (one : PlaceSpan) (place first hash k : ℕ) (old new : List (Vec Entry Global)) : Type 0 where
  pub same : length new ≡ length old
  pub kept : (h : ℕ) (span : PlaceSpan) → HasEntry old h span → HasEntry new h span
  pub sound : (h : ℕ) (span : PlaceSpan) → HasEntry new h span → HasEntry old h span ⊎ (span ≡ one)
  pub sequences : (v : Word) (p : ℕ) → AreLastLetters v → Reads tokens p v place → HasEntry new (hash_of v) one ⊎ IsPending tokens first hash k v p

pub sequences-none : (tokens : List TokenValue) (one : PlaceSpan) (place : ℕ) (old : List (Vec Entry Global)) → AddsSequences tokens one place place 0 0 old old
sequences-none tokens one place old = record {
  same = refl;
  kept = λ h span has. has;
  sound = λ h span has. inl has;
  sequences = λ v p are reads. inr (record { sequence = v; dark = are.dark; some = are.some; few = omega (arith, are.few); reads = reads; is = refl });
}

-- the last letter that was not looked at is the one before the place
module _ (tokens : List TokenValue) (first hash k : ℕ) (v : Word) (p : ℕ) (pending : IsPending tokens first hash k v p) where
  pub pending-letter : (u : Word) × (c : ℕ) × (r : ℕ) × (pending.sequence ≡ u ++ c ∷ []) × Reads tokens p u r × ¬ (c ≡ blank) × IsLetterBefore (spelling_of tokens) first r c
  pending-letter =
      let last = last-parted pending.sequence pending.some in
      let parted = reads-parted tokens last.0 (last.1 ∷ []) p first (subst (λ x. Reads tokens p x first) last.2 pending.reads) in
      let dark = pending.dark last.1 (subst (λ x. Contains x last.1) (sym last.2) (Contains-push last.0 last.1)) in
      (last.0, last.1, parted.0, last.2, parted.1, dark, letter-read tokens parted.0 last.1 first dark parted.2)

-- one letter more is looked at
pub sequences-more : (tokens : List TokenValue) (one : PlaceSpan) (place first hash k start letter i : ℕ) (old lists : List (Vec Entry Global)) (was now : Vec Entry Global) (e : Entry) →
    AreTexts tokens → AddsSequences tokens one place first hash k old lists → IsLetterBefore (spelling_of tokens) first start letter →
    i < length lists → was ≡ get_or lists i was → now.items ≡ was.items ++ e ∷ [] → e ≡ record { hash = mixed hash letter; span = one } →
    i ≡ number_of (mixed hash letter) (length lists) →
    AddsSequences tokens one place start (mixed hash letter) (k + 1) old (set lists i now)
sequences-more tokens one place first hash k start letter i old lists was now e texts adds before within is pushed entry number = record {
  same = length-set lists i now ∙ adds.same;
  kept = λ h span has. entry-kept lists i was now e within is pushed h span (adds.kept h span has);
  sound = λ h span has. elim (entry-sound lists i was now e within is pushed h span has) [
    | inl known ↦ adds.sound h span known
    | inr new ↦ inr (new ∙ ap (λ (x : Entry). x.span) entry)
  ];
  sequences = λ v p are reads. elim (adds.sequences v p are reads) [
    | inl has ↦ inl (entry-kept lists i was now e within is pushed (hash_of v) one has)
    | inr pending ↦ step v p pending
  ];
}
  where
    step : (v : Word) (p : ℕ) → IsPending tokens first hash k v p →
        HasEntry (set lists i now) (hash_of v) one ⊎ IsPending tokens start (mixed hash letter) (k + 1) v p
    step v p pending = by_sequence last.0 refl
      where
        last : (u : Word) × (c : ℕ) × (r : ℕ) × (pending.sequence ≡ u ++ c ∷ []) × Reads tokens p u r × ¬ (c ≡ blank) × IsLetterBefore (spelling_of tokens) first r c
        last = pending-letter tokens first hash k v p pending

        one_letter : (last.2 ≡ start) × (last.1 ≡ letter)
        one_letter = letter-one (spelling_of tokens) first last.2 last.1 start letter (spelling-utf8 tokens texts) last.6 before

        hash-is : hash_of v ≡ hash_before (mixed hash letter) last.0
        hash-is = pending.is ∙ ap (hash_before hash) last.3 ∙ hash-last hash last.0 last.1 ∙ ap (λ c. hash_before (mixed hash c) last.0) one_letter.1

        long : length pending.sequence ≡ length last.0 + 1
        long = ap length last.3 ∙ length-last last.0 last.1
          where
            length-last : (u : Word) (c : ℕ) → length (u ++ c ∷ []) ≡ length u + 1
            length-last [] c = refl
            length-last (d ∷ u) c = let more = length-last u c in omega (arith, more)

        by_sequence : (u : Word) → u ≡ last.0 → HasEntry (set lists i now) (hash_of v) one ⊎ IsPending tokens start (mixed hash letter) (k + 1) v p
        by_sequence [] none =
            inl (subst (λ h. HasEntry (set lists i now) h one) (sym (hash-is ∙ ap (hash_before (mixed hash letter)) (sym none)))
            (entry-new lists i was now e within is pushed (mixed hash letter) one entry number))
        by_sequence (d ∷ u) more = inr (record {
          sequence = last.0;
          dark = λ c has. pending.dark c (subst (λ x. Contains x c) (sym last.3) (Contains-append_left last.0 (last.1 ∷ []) c has));
          some = let size = ap length more in omega (arith, size);
          few = omega (arith, pending.few, long);
          reads = subst (λ q. Reads tokens p last.0 q) one_letter.0 last.4;
          is = hash-is;
        })

-- all sequences before the place
pub sequences-all : (tokens : List TokenValue) (one : PlaceSpan) (place first hash k : ℕ) (old new : List (Vec Entry Global)) →
    AddsSequences tokens one place first hash k old new → Reaches tokens (one ∷ []) place one.last →
    ((v : Word) (p : ℕ) → IsPending tokens first hash k v p → ⊥) →
    AddsPlaces tokens (λ s. s ≡ one) (λ q last. (q ≡ place) × (last ≡ one.last)) old new
sequences-all tokens one place first hash k old new adds reaches none = record {
  same = adds.same;
  kept = adds.kept;
  sound = adds.sound;
  complete = λ w p q last are reads ends.
      let has : HasEntry new (hash_of w) one = elim (adds.sequences w p are (subst (λ x. Reads tokens p w x) ends.0 reads)) [
        | inl is ↦ is
        | inr pending ↦ absurd (none w p pending)
      ] in
      record {
        span = one;
        entry = has;
        reaches = subst (λ x. Reaches tokens (one ∷ []) x last) (sym ends.0) (subst (λ x. Reaches tokens (one ∷ []) place x) (sym ends.1) reaches);
      };
}

-- no letter comes before the place, or a blank does
pub pending-none : (tokens : List TokenValue) (first hash k : ℕ) → ((p c : ℕ) → ¬ (IsLetterBefore (spelling_of tokens) first p c)) →
    (v : Word) (p : ℕ) → IsPending tokens first hash k v p → ⊥
pending-none tokens first hash k none v p pending = let last = pending-letter tokens first hash k v p pending in none last.2 last.1 last.6

pub pending-blank : (tokens : List TokenValue) (first hash k start letter : ℕ) → AreTexts tokens → IsLetterBefore (spelling_of tokens) first start letter → letter ≡ blank →
    (v : Word) (p : ℕ) → IsPending tokens first hash k v p → ⊥
pending-blank tokens first hash k start letter texts before is v p pending =
    let last = pending-letter tokens first hash k v p pending in
    last.5 ((letter-one (spelling_of tokens) first last.2 last.1 start letter (spelling-utf8 tokens texts) last.6 before).1 ∙ is)

-- or eight letters were looked at
pub pending-long : (tokens : List TokenValue) (first hash k : ℕ) → 8 ≤ k → (v : Word) (p : ℕ) → IsPending tokens first hash k v p → ⊥
pending-long tokens first hash k long v p pending = omega (arith, long, pending.some, pending.few)

-- ---- more places

module _ (tokens : List TokenValue) (P : PlaceSpan → Type 0) where
  pub adds-none : (G : ℕ → ℕ → Type 0) (old : List (Vec Entry Global)) → ((q last : ℕ) → G q last → ⊥) → AddsPlaces tokens P G old old
  adds-none G old none = record {
    same = refl;
    kept = λ h span has. has;
    sound = λ h span has. inl has;
    complete = λ w p q last are reads ends. absurd (none q last ends);
  }

  pub adds-same : (E G : ℕ → ℕ → Type 0) (old new : List (Vec Entry Global)) → AddsPlaces tokens P E old new → ((q last : ℕ) → G q last → E q last) → AddsPlaces tokens P G old new
  adds-same E G old new adds within = record {
    same = adds.same;
    kept = adds.kept;
    sound = adds.sound;
    complete = λ w p q last are reads ends. adds.complete w p q last are reads (within q last ends);
  }

  pub adds-more : (Q : PlaceSpan → Type 0) (E F G : ℕ → ℕ → Type 0) (old mid new : List (Vec Entry Global)) → AddsPlaces tokens P E old mid → AddsPlaces tokens Q F mid new →
      ((s : PlaceSpan) → Q s → P s) → ((q last : ℕ) → G q last → E q last ⊎ F q last) → AddsPlaces tokens P G old new
  adds-more Q E F G old mid new one other also parted = record {
    same = other.same ∙ one.same;
    kept = λ h span has. other.kept h span (one.kept h span has);
    sound = λ h span has. elim (other.sound h span has) [
      | inl known ↦ one.sound h span known
      | inr is ↦ inr (also span is)
    ];
    complete = λ w p q last are reads ends. elim (parted q last ends) [
      | inl first ↦
          let has = one.complete w p q last are reads first in
          record { span = has.span; entry = other.kept (hash_of w) has.span has.entry; reaches = has.reaches }
      | inr second ↦ other.complete w p q last are reads second
    ];
  }

-- one number of a span
abbrev pub number_span : PlaceSpan → ℕ → PlaceSpan
number_span span number = record { low = number; high = number; last = span.last; kind = span.kind }

pub number-piece : (span : PlaceSpan) (number : ℕ) → span.low ≤ number → number ≤ span.high → IsPieceOf (span ∷ []) (number_span span number)
number-piece span number from to = record {
  ordered = omega arith;
  among = λ kind n last holds.
      let h = held (number_span span number) kind n last holds in
      subst (λ k. Holds (span ∷ []) k n last) h.0 (subst (λ l. Holds (span ∷ []) span.kind n l) h.3 (holds-one span n (omega (arith, h.1, from)) (omega (arith, h.2, to))));
}

pub number-reaches : (tokens : List TokenValue) (span : PlaceSpan) (number place : ℕ) → IsPlaceOf tokens span.kind number place →
    Reaches tokens (number_span span number ∷ []) place span.last
number-reaches tokens span number place is =
    record { kind = span.kind; number = number; holds = holds-one (number_span span number) number (omega arith) (omega arith); place = is }

module _ (tokens : List TokenValue) (span : PlaceSpan) (number : ℕ) (old mid : List (Vec Entry Global)) (from : span.low ≤ number) (to : number ≤ span.high)
    (adds : AddsPlaces tokens (IsPieceOf (span ∷ [])) (Below tokens span number) old mid) where
  parted : (q last : ℕ) → Below tokens span (number + 1) q last → Below tokens span number q last ⊎ At tokens span number q last
  parted q last e = ⊎_elim
      (λ (below : e.0 < number). inl (e.0, e.1, below, e.3))
      (λ (past : number ≤ e.0). let same : e.0 ≡ number = omega (arith, e.2, past) in inr (subst (λ x. At tokens span x q last) same e.3))
      (cases_lt e.0 number)

  -- the place of a number
  pub span-more : (place : ℕ) (new : List (Vec Entry Global)) → IsPlaceOf tokens span.kind number place →
      AddsPlaces tokens (λ s. s ≡ number_span span number) (λ q last. (q ≡ place) × (last ≡ span.last)) mid new →
      AddsPlaces tokens (IsPieceOf (span ∷ [])) (Below tokens span (number + 1)) old new
  span-more place new is more =
      adds-more tokens (IsPieceOf (span ∷ [])) (λ s. s ≡ number_span span number) (Below tokens span number) (λ q last. (q ≡ place) × (last ≡ span.last))
      (Below tokens span (number + 1)) old mid new adds more
      (λ s same. subst (IsPieceOf (span ∷ [])) (sym same) (number-piece span number from to))
      (λ q last e. elim (parted q last e) [
        | inl below ↦ inl below
        | inr at ↦ inr (place-one tokens span.kind number q place at.1 is, at.0)
      ])

  -- a number that gives none
  pub span-skip : ((p : ℕ) → ¬ (IsPlaceOf tokens span.kind number p)) → AddsPlaces tokens (IsPieceOf (span ∷ [])) (Below tokens span (number + 1)) old mid
  span-skip none = adds-same tokens (IsPieceOf (span ∷ [])) (Below tokens span number) (Below tokens span (number + 1)) old mid adds
      (λ q last e. elim (parted q last e) [
        | inl below ↦ below
        | inr at ↦ absurd (none q at.1)
      ])

-- all numbers of a span
pub span-all : (tokens : List TokenValue) (span : PlaceSpan) (end : ℕ) (old new : List (Vec Entry Global)) → end ≡ span.high + 1 →
    AddsPlaces tokens (IsPieceOf (span ∷ [])) (Below tokens span end) old new → AddsPlaces tokens (IsPieceOf (span ∷ [])) (λ q last. Reaches tokens (span ∷ []) q last) old new
span-all tokens span end old new last adds = adds-same tokens (IsPieceOf (span ∷ [])) (Below tokens span end) (λ q l. Reaches tokens (span ∷ []) q l) old new adds
    (λ q l r. let h = held span r.kind r.number l r.holds in
    (r.number, h.1, omega (arith, h.2, last), (sym h.3, subst (λ k. IsPlaceOf tokens k r.number q) (sym h.0) r.place)))

-- ---- all spans

-- the groups have the places of the first n spans
pub record AreGroupsTo (tokens : List TokenValue) (spans : List PlaceSpan) (i : ℕ) (lists : List (Vec Entry Global)) : Type 0 where
  pub some : 0 < length lists
  pub sound : (hash : ℕ) (span : PlaceSpan) → HasEntry lists hash span → IsPieceOf spans span
  pub complete : (w : Word) (p q last : ℕ) → AreLastLetters w → Reads tokens p w q → Reaches tokens (take i spans) q last → HasPlaceWith tokens lists w q last

pub groups-none : (tokens : List TokenValue) (spans : List PlaceSpan) (lists : List (Vec Entry Global)) → 0 < length lists → HasNone lists → AreGroupsTo tokens spans 0 lists
groups-none tokens spans lists some none = record {
  some = some;
  sound = λ hash span has. absurd (none hash span has);
  complete = λ w p q last are reads r. absurd (Reaches-nil tokens q last r);
}

pub groups-more : (tokens : List TokenValue) (spans : List PlaceSpan) (i : ℕ) (d : PlaceSpan) (old new : List (Vec Entry Global)) → i < length spans →
    AreGroupsTo tokens spans i old →
    AddsPlaces tokens (IsPieceOf (get_or spans i d ∷ [])) (λ q last. Reaches tokens (get_or spans i d ∷ []) q last) old new →
    AreGroupsTo tokens spans (i + 1) new
groups-more tokens spans i d old new below are adds = record {
  some = omega (arith, are.some, adds.same);
  sound = λ hash span has. elim (adds.sound hash span has) [
    | inl known ↦ are.sound hash span known
    | inr piece ↦ record {
      ordered = piece.ordered;
      among = λ kind number last holds.
          Holds-among (get_or spans i d ∷ []) spans kind number last (λ s has. member s (Contains-push_cases [] (get_or spans i d) s has)) (piece.among kind number last holds);
    }
  ];
  complete = λ w p q last letters reads r.
      elim (Reaches-append tokens (take i spans) (get_or spans i d ∷ []) q last (subst (λ xs. Reaches tokens xs q last) (take_more spans i d below) r)) [
        | inl first ↦
            let has = are.complete w p q last letters reads first in
            record { span = has.span; entry = adds.kept (hash_of w) has.span has.entry; reaches = has.reaches }
        | inr second ↦ adds.complete w p q last letters reads second
      ];
}
  where
    member : (s : PlaceSpan) → Contains [] s ⊎ (get_or spans i d ≡ s) → Contains spans s
    member s (inl none) = absurd (omega (arith, none.1))
    member s (inr same) = subst (λ x. Contains spans x) same (Contains-get_or spans i d below)

pub groups-all : (tokens : List TokenValue) (spans : List PlaceSpan) (i : ℕ) (lists : List (Vec Entry Global)) → length spans ≤ i → AreGroupsTo tokens spans i lists →
    AreGroupsOf tokens spans lists
groups-all tokens spans i lists all are = record {
  sound = are.sound;
  complete = λ w p q last letters reads r. are.complete w p q last letters reads (subst (λ xs. Reaches tokens xs q last) (sym (take_all i spans all)) r);
}

-- ---- one group

-- the spans with this hash among the first n entries
pub record AreWith (hash : ℕ) (entries : List Entry) (i : ℕ) (found : List PlaceSpan) : Type 0 where
  pub exact : (s : PlaceSpan) → Contains found s ↔ Contains (take i entries) (record { hash = hash; span = s })

pub with-none : (hash : ℕ) (entries : List Entry) (found : List PlaceSpan) → found ≡ [] → AreWith hash entries 0 found
with-none hash entries found none = subst (AreWith hash entries 0) (sym none) (record {
  exact = λ s. (λ has. absurd (omega (arith, has.1)), λ has. absurd (omega (arith, has.1)));
})

pub with-more : (hash : ℕ) (entries : List Entry) (i : ℕ) (d : Entry) (old new : List PlaceSpan) → i < length entries → AreWith hash entries i old → (get_or entries i d).hash ≡ hash →
    new ≡ old ++ (get_or entries i d).span ∷ [] → AreWith hash entries (i + 1) new
with-more hash entries i d old new below are same is = subst (AreWith hash entries (i + 1)) (sym is) (record {
  exact = λ s. (
    λ has. subst (λ xs. Contains xs (record { hash = hash; span = s })) (sym (take_more entries i d below))
        (elim (Contains-push_cases old (get_or entries i d).span s has) [
          | inl known ↦ Contains-append_left (take i entries) (get_or entries i d ∷ []) (record { hash = hash; span = s }) ((are.exact s).0 known)
          | inr new ↦ subst (λ x. Contains (take i entries ++ get_or entries i d ∷ []) x) (entry s new) (Contains-push (take i entries) (get_or entries i d))
        ]),
    λ has. elim (Contains-push_cases (take i entries) (get_or entries i d) (record { hash = hash; span = s })
        (subst (λ xs. Contains xs (record { hash = hash; span = s })) (take_more entries i d below) has)) [
          | inl known ↦ Contains-append_left old ((get_or entries i d).span ∷ []) s ((are.exact s).1 known)
          | inr new ↦ subst (λ x. Contains (old ++ (get_or entries i d).span ∷ []) x) (ap (λ (x : Entry). x.span) new) (Contains-push old (get_or entries i d).span)
        ],
  );
})
  where
    entry : (s : PlaceSpan) → (get_or entries i d).span ≡ s → get_or entries i d ≡ record { hash = hash; span = s }
    entry s is = ap (λ h. record { hash = h; span = (get_or entries i d).span }) same ∙ ap (λ x. record { hash = hash; span = x }) is

pub with-skip : (hash : ℕ) (entries : List Entry) (i : ℕ) (d : Entry) (found : List PlaceSpan) → i < length entries → AreWith hash entries i found → ¬ ((get_or entries i d).hash ≡ hash) →
    AreWith hash entries (i + 1) found
with-skip hash entries i d found below are other = record {
  exact = λ s. (
    λ has. subst (λ xs. Contains xs (record { hash = hash; span = s })) (sym (take_more entries i d below))
        (Contains-append_left (take i entries) (get_or entries i d ∷ []) (record { hash = hash; span = s }) ((are.exact s).0 has)),
    λ has. elim (Contains-push_cases (take i entries) (get_or entries i d) (record { hash = hash; span = s })
        (subst (λ xs. Contains xs (record { hash = hash; span = s })) (take_more entries i d below) has)) [
          | inl known ↦ (are.exact s).1 known
          | inr new ↦ absurd (other (ap (λ (x : Entry). x.hash) new))
        ],
  );
}

pub with-all : (hash : ℕ) (entries : List Entry) (i : ℕ) (found : List PlaceSpan) → length entries ≤ i → AreWith hash entries i found →
    (s : PlaceSpan) → Contains found s ↔ Contains entries (record { hash = hash; span = s })
with-all hash entries i found all are s = (
  λ has. subst (λ xs. Contains xs (record { hash = hash; span = s })) (take_all i entries all) ((are.exact s).0 has),
  λ has. (are.exact s).1 (subst (λ xs. Contains xs (record { hash = hash; span = s })) (sym (take_all i entries all)) has),
)
