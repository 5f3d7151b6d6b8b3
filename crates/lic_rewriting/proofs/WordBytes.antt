-- The table of the bytes that are of words.
use Rattle.std.proofs.Common.{◌≡◌, ℕ, ◌<◌, false, slice_index_or, refl}
use Rattle.std.proofs.lemmas.Bool.{agree_below_at}
use Rattle.lic_columns.specs.Bytes.{is_word}
use Rattle.lic_kind.specs.Kinds.{kind_of}
use Rattle.lic_rewriting.specs.declared.word_bytes.TheConstants.{WORDS}

pub word_bytes : (b : ℕ) → b < 256 → slice_index_or WORDS b false ≡ is_word b
unfolding kind_of
word_bytes b small = agree_below_at (λ d. slice_index_or WORDS d false) is_word 256 b refl small
