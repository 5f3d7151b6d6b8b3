-- The table of the first 256 characters has their kinds.
use Rattle.std.proofs.Common.{◌≡◌, ℕ, ◌<◌, ◌==◌, slice_index_or, refl, eqb-true, arith}
use Rattle.lic_kind.specs.declared.Kind.{Kind}
use Rattle.lic_kind.specs.declared.Kind.TheVariants.{Blank, Dropped, Mark, Word}
use Rattle.lic_kind.specs.declared.latin.TheConstants.{KINDS}
use Rattle.lic_kind.specs.Kinds.{kind_of}
use Rattle.lic_kind.proofs.KindLemmas.{each_below}

-- kinds as numbers, which are compared by computing
abbrev number : Kind → ℕ
number Blank = 0
number Dropped = 1
number Mark = 2
number Word = 3

same_number : (a b : Kind) → number a ≡ number b → a ≡ b
same_number Blank Blank e = refl
same_number Blank Dropped e = absurd (omega arith)
same_number Blank Mark e = absurd (omega arith)
same_number Blank Word e = absurd (omega arith)
same_number Dropped Blank e = absurd (omega arith)
same_number Dropped Dropped e = refl
same_number Dropped Mark e = absurd (omega arith)
same_number Dropped Word e = absurd (omega arith)
same_number Mark Blank e = absurd (omega arith)
same_number Mark Dropped e = absurd (omega arith)
same_number Mark Mark e = refl
same_number Mark Word e = absurd (omega arith)
same_number Word Blank e = absurd (omega arith)
same_number Word Dropped e = absurd (omega arith)
same_number Word Mark e = absurd (omega arith)
same_number Word Word e = refl

-- the kinds that the table has
pub latin_kinds : (c : ℕ) → c < 256 → slice_index_or KINDS c Blank ≡ kind_of c
unfolding kind_of
latin_kinds c below =
    same_number _ _ (eqb-true _ _ (each_below 256 (λ d. number (slice_index_or KINDS d Blank) == number (kind_of d)) c refl below))
