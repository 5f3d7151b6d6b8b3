use Rattle.std.proofs.Common.{◌≡◌, [], ◌∷◌, ◌++◌}
use Rattle.lic_auto.proofs.Taken.{measured-push}
use Rattle.lic_auto.proofs.Texts.{nothing_taken}
use Rattle.lic_auto.proofs.compile.end_text.Goals as goal

pub returns-in_ok-push-in_default : goal.returns-in_ok-push-in_default
returns-in_ok-push-in_default c =
    let pushed = c.in_ok-push-in_default.ensures.items in
    let same = c.in_default.last-is in
    let items : c.push.new.self.items ≡ c.args.kept.now.items ++ c.args.last ∷ [] = cc in
    record {
      measured = measured-push _ _ _ items c.requires.kept c.requires.last;
      words = nothing_taken _ _ _ _ items c.new.ensures.items;
    }
