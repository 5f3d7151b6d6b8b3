use Rattle.lic_arguments.proofs.CommandLemmas.{found, refused}
use Rattle.lic_arguments.proofs.command_line.parse.Goals as goal

pub returns : goal.returns
returns c =
    let parse = c.try_get_matches_from in
    let is = c.in_ok-program.ensures in
    record {
      found = found _ _ parse.result is parse.ensures.matches parse.ensures.kinds;
      fault = refused _ _ parse.result is parse.ensures.kinds;
    }
