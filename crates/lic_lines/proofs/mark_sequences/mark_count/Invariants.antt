use Rattle.std.proofs.Common.{◌≡◌, ℕ, ◌-◌, ◌<◌, ◌≤◌, length, get_or}
use Rattle.lic_kind.specs.Kinds.{kind_of}
use Rattle.lic_kind.specs.declared.Kind.TheVariants as kind
use Rattle.lic_trim.specs.declared.source.SourceChar.{SourceChar}
use Rattle.lic_lines.proofs.mark_sequences.mark_count.Given as goal

abbrev pub invariant-loop-count : goal.invariant-loop-count
invariant-loop-count l = record {
  some : 0 < l.count;
  within : l.count ≤ length l.text;
  all : (i : ℕ) (d : SourceChar) → i < l.count → kind_of (get_or l.text i d).char ≡ kind.Mark;
}

abbrev pub decreases-loop-count : goal.decreases-loop-count
decreases-loop-count l = length l.text - l.count
