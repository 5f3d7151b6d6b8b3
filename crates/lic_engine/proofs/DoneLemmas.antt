-- Lines of things that are found one at a time, where each thing belongs to a key and each key has one good thing.
use Rattle.std.proofs.Common.{◌≡◌, ℕ, List, [], ◌∷◌, ◌++◌, map, Option, Result, Ok, Err, OnErr, refl, sym, ap, ◌∙◌}
use Rattle.std.specs.List.{All, flat_map}
use Rattle.std.specs.Io.KnownBytes.{Appends}
use Rattle.std.proofs.lemmas.List.{map-append}
use Rattle.std.proofs.lemmas.List.Elements.{All-nil, All-head, All-tail, All-push}
use Rattle.lic_stream.specs.Stream.{BeginsWith}
use Rattle.lic_stream.proofs.Written.{IsPut, put_nothing, put_line, put_more, put_whole, put_begins, put_begins_within}

-- a fact on what is written after an error
pub on_err : {A E : Type 0} (r : Result A E) (P : Type 0) → P → OnErr r P
on_err (Ok x) P p = tt
on_err (Err x) P p = p

-- the good things of these keys: the lines of some are put, and those of the others gathered
pub record AreDone (X Y : Type 0) (key : Y → X) (Good : Y → Type 0) (line : Y → List ℕ) (old new : Option (List ℕ))
    (gathered : List ℕ) (keys : List X) : Type 0 where
  pub things : List Y
  pub belong : map key things ≡ keys
  pub good : All Good things
  pub put : IsPut old new gathered (flat_map line things)

module _ (X Y : Type 0) (key : Y → X) (Good : Y → Type 0) (line : Y → List ℕ) where
  abbrev pub done_nothing : (a : Option (List ℕ)) → AreDone X Y key Good line a a [] []
  done_nothing a = record { things = []; belong = refl; good = All-nil Good; put = put_nothing a }

  -- one thing more is gathered
  abbrev pub done_more : (a b : Option (List ℕ)) (gathered more : List ℕ) (keys : List X) (y : Y)
      → AreDone X Y key Good line a b gathered keys → Good y → more ≡ gathered ++ line y → AreDone X Y key Good line a b more (keys ++ key y ∷ [])
  done_more a b gathered more keys y d h e =
      record {
        things = d.things ++ y ∷ [];
        belong = map-append key d.things (y ∷ []) ∙ ap (λ ks. ks ++ key y ∷ []) d.belong;
        good = All-push Good d.things y d.good h;
        put = put_line line d.things y a b gathered more d.put e;
      }

  -- some of what is gathered is put
  abbrev pub done_put : (a b c : Option (List ℕ)) (gathered rest : List ℕ) (keys : List X)
      → AreDone X Y key Good line a b gathered keys → ((put : List ℕ) × Appends b c put × (gathered ≡ put ++ rest)) → AreDone X Y key Good line a c rest keys
  done_put a b c gathered rest keys d p =
      record { things = d.things; belong = d.belong; good = d.good; put = put_more a b c gathered rest (flat_map line d.things) d.put p }

  -- all that is gathered is put
  abbrev pub done_whole : (a b c : Option (List ℕ)) (gathered : List ℕ) (keys : List X)
      → AreDone X Y key Good line a b gathered keys → Appends b c gathered
      → (things : List Y) × (map key things ≡ keys) × All Good things × Appends a c (flat_map line things)
  done_whole a b c gathered keys d p = (d.things, d.belong, d.good, put_whole a b c gathered (flat_map line d.things) d.put p)

  module _ (one : (x y : Y) → key x ≡ key y → Good x → Good y → x ≡ y) where
    -- good things of keys begin with those of their first keys
    begin_alike : (done others : List Y) (rest : List X) → map key others ≡ map key done ++ rest → All Good done → All Good others
        → (more : List Y) × (others ≡ done ++ more)
    begin_alike [] others rest e g h = (others, refl)
    begin_alike (x ∷ xs) [] rest e g h = absurd (cc)
    begin_alike (x ∷ xs) (y ∷ ys) rest e g h =
        let head : key y ≡ key x = cc in
        let tail : map key ys ≡ map key xs ++ rest = cc in
        let same : y ≡ x = one y x head (All-head Good y ys h) (All-head Good x xs g) in
        let later : (more : List Y) × (ys ≡ xs ++ more) = begin_alike xs ys rest tail (All-tail Good x xs g) (All-tail Good y ys h) in
        (later.0, ap (λ l. y ∷ l) later.1 ∙ ap (λ z. z ∷ (xs ++ later.0)) same)

    -- what was put so far is a beginning of the lines of all
    pub done_begins : (a b : Option (List ℕ)) (gathered : List ℕ) (keys rest all : List X) (others : List Y)
        → AreDone X Y key Good line a b gathered keys → all ≡ keys ++ rest → map key others ≡ all → All Good others
        → BeginsWith a b (flat_map line others)
    done_begins a b gathered keys rest all others d split belong good =
        let alike = begin_alike d.things others rest (belong ∙ split ∙ ap (λ ks. ks ++ rest) (sym d.belong)) d.good good in
        put_begins line others d.things alike.0 a b gathered d.put alike.1

    -- and so is what was put with a beginning of what is gathered
    pub done_begins_within : (a b c : Option (List ℕ)) (gathered : List ℕ) (keys rest all : List X) (others : List Y)
        → AreDone X Y key Good line a b gathered keys → BeginsWith b c gathered → all ≡ keys ++ rest → map key others ≡ all → All Good others
        → BeginsWith a c (flat_map line others)
    done_begins_within a b c gathered keys rest all others d p split belong good =
        let alike = begin_alike d.things others rest (belong ∙ split ∙ ap (λ ks. ks ++ rest) (sym d.belong)) d.good good in
        put_begins_within line others d.things alike.0 a b c gathered d.put p alike.1

    -- the same after an error
    pub err_begins : {A E : Type 0} (r : Result A E) (a b : Option (List ℕ)) (gathered : List ℕ) (keys rest all : List X)
        → AreDone X Y key Good line a b gathered keys → all ≡ keys ++ rest
        → OnErr r ((others : List Y) → map key others ≡ all → All Good others → BeginsWith a b (flat_map line others))
    err_begins (Ok x) a b gathered keys rest all d split = tt
    err_begins (Err x) a b gathered keys rest all d split = λ others belong good. done_begins a b gathered keys rest all others d split belong good

    pub err_begins_within : {A E : Type 0} (r : Result A E) (a b c : Option (List ℕ)) (gathered : List ℕ) (keys rest all : List X)
        → AreDone X Y key Good line a b gathered keys → BeginsWith b c gathered → all ≡ keys ++ rest
        → OnErr r ((others : List Y) → map key others ≡ all → All Good others → BeginsWith a c (flat_map line others))
    err_begins_within (Ok x) a b c gathered keys rest all d p split = tt
    err_begins_within (Err x) a b c gathered keys rest all d p split = λ others belong good.
        done_begins_within a b c gathered keys rest all others d p split belong good
