-- The longest texts of the templates so far.
use Rattle.std.proofs.Common.{map, take}
use Rattle.lic_keys.specs.Keys.{AreKeysOf}
use Rattle.lic_keys.proofs.KeysLemmas.{keys_of}
use Rattle.lic_keys.proofs.keys.Keys.build.Given as goal

abbrev pub invariant-loop-template : goal.invariant-loop-template
invariant-loop-template l =
    AreKeysOf (map (λ t. t.now.parts) (take l.template-index l.templates)) (keys_of l.texts.items (map (λ text. text.now) l.letters.items))
