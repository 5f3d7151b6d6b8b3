use Rattle.std.proofs.Common.{◌≡◌, ℕ, ◌<◌, List, [], ◌++◌, length, get_or, take, drop, map, vec_len}
use Rattle.lic_phrases.specs.Listed.{AreListed, phrases_in}
use Rattle.lic_phrases.specs.WordLists.{fault_from, split_phrases}
use Rattle.lic_phrases.specs.WordReading.{HasRead}
use Rattle.lic_phrases.proofs.words.reader.WordsReader.read_phrases.Given as goal

abbrev pub invariant-loop-phrase : goal.invariant-loop-phrase
invariant-loop-phrase l = record {
  can_next : goal.iterator-loop-phrase.can_next l.phrase-iterator;
  finite : goal.iterator-loop-phrase.is_finite l.phrase-iterator;
  listed : AreListed l.self.keys.keys l.self.phrases.items l.self.heads.items;
  as_many : vec_len l.numbers ≡ length l.yielded;
  numbered : (k : ℕ) → k < vec_len l.numbers → get_or l.numbers.items k 0 < vec_len l.self.heads;
  read : (lines : List (List (List (List ℕ)))) → HasRead [] lines [] (phrases_in l.fn.self.phrases.items) l.fn.self.heads.items []
      → HasRead [] lines (take (length l.yielded) (split_phrases l.line)) (phrases_in l.self.phrases.items) l.self.heads.items l.numbers.items;
  sound : (number : ℕ) (later : List (ℕ × List (List ℕ)))
      → fault_from l.fn.self.count (map (λ phrase. (number, phrase)) (split_phrases l.line) ++ later)
      ≡ fault_from l.self.count (map (λ phrase. (number, phrase)) (drop (length l.yielded) (split_phrases l.line)) ++ later);
}
