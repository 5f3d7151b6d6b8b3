-- Cores one after another, and one of them, as the list of them grows.
use Rattle.std.proofs.Common.{List, [], ◌∷◌, ◌++◌}
use Rattle.lic_words.specs.Words.{Cat}
use Rattle.lic_marks.specs.Cores.{Core, WordsOf, cat_all, alt_all}
use Rattle.lic_auto.specs.Compiling.{AreSame}
use Rattle.lic_auto.proofs.WordSets.{AreSame-refl, AreSame-sym, AreSame-trans, Either, Cat-same, Either-same, Cat-empty_left, Cat-empty_right, Either-none, Either-none_left, Cat-assoc, Either-assoc}

pub cat_all-push : (rs : List Core) (r : Core) → AreSame (WordsOf (cat_all (rs ++ r ∷ []))) (Cat (WordsOf (cat_all rs)) (WordsOf r))
cat_all-push [] r = AreSame-trans (Cat-empty_right (WordsOf r)) (AreSame-sym (Cat-empty_left (WordsOf r)))
cat_all-push (s ∷ rs) r =
    AreSame-trans (Cat-same (AreSame-refl (WordsOf s)) (cat_all-push rs r))
    (AreSame-sym (Cat-assoc (WordsOf s) (WordsOf (cat_all rs)) (WordsOf r)))

pub alt_all-push : (rs : List Core) (r : Core) → AreSame (WordsOf (alt_all (rs ++ r ∷ []))) (Either (WordsOf (alt_all rs)) (WordsOf r))
alt_all-push [] r = AreSame-trans (Either-none (WordsOf r)) (AreSame-sym (Either-none_left (WordsOf r)))
alt_all-push (s ∷ rs) r =
    AreSame-trans (Either-same (AreSame-refl (WordsOf s)) (alt_all-push rs r))
    (AreSame-sym (Either-assoc (WordsOf s) (WordsOf (alt_all rs)) (WordsOf r)))

-- two sequences with the same words have them with one child more
pub cat_all-keep : (rs ss : List Core) (r : Core) → AreSame (WordsOf (cat_all rs)) (WordsOf (cat_all ss)) →
    AreSame (WordsOf (cat_all (rs ++ r ∷ []))) (WordsOf (cat_all (ss ++ r ∷ [])))
cat_all-keep rs ss r same =
    AreSame-trans (cat_all-push rs r)
    (AreSame-trans (Cat-same same (AreSame-refl (WordsOf r))) (AreSame-sym (cat_all-push ss r)))
