use Rattle.std.proofs.Common.{◌≡◌, ◌+◌, ◌<◌, ◌≤◌, ◌↔◌, true, All, length, map}
use Rattle.lic_kind.specs.LineRules.{rules_of}
use Rattle.std.specs.String.{string_bytes}
use Rattle.lic_set.specs.Sets.{pairs_known}
use Rattle.lic_load.specs.Listings.{IsReadBy}
use Rattle.lic_load.specs.Loading.{AreGoneOver}
use Rattle.lic_load.proofs.templates.load_all.Given as goal

-- as many templates are read as names were gone over, or one was left out; each was read by the rules and the list, and each other one is reported
abbrev pub invariant-loop-id : goal.invariant-loop-id
invariant-loop-id g l =
    record {
      within : length l.templates.items ≤ length l.yielded;
      read : All (λ pair. IsReadBy (rules_of l.fn.rules) l.fn.words pair.1) l.templates.items;
      left_out : (l.is_refused ≡ true) ↔ (length l.templates.items < length l.yielded + l.fn.listing.unnamed);
      gone_over : AreGoneOver (rules_of l.fn.rules) l.fn.words (g.E.Sink.taken l.initial.err) (g.E.Sink.failed l.initial.err)
          (map string_bytes l.yielded) (pairs_known l.templates.items) (g.E.Sink.taken l.err) (g.E.Sink.failed l.err);
    }
