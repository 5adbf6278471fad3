use Rattle.std.proofs.Common.{◌∙◌, map, string_bytes, sym, subst, ap, None}
use Rattle.clap.specs.Words.{rows_of, found_of, subcommand_rows_of}
use Rattle.command_line.specs.Cli.{asked_from}
use Rattle.command_line.proofs.Names.{taken, IsTakenOne, rows_named, no_command}
use Rattle.command_line.proofs.read_command.Goals as goal

pub read_request-requires : goal.read_request-requires
read_request-requires c =
    let rows = rows_named c.in_ok-parsed.parsed c.in-Some.name.now (rows_of (found_of c.in-Some.found.now)) c.in-Some.ensures.name c.in-Some.ensures.rows in
    let is = sym c.in_ok-parsed.ensures.ok.1 ∙ rows in
    subst IsTakenOne is (taken (map string_bytes c.args.words.now) c.in_ok-parsed.ensures.ok.0)

pub returns-in-Some-clause-accepted : goal.returns-in-Some-clause-accepted
returns-in-Some-clause-accepted c =
    let rows = rows_named c.in_ok-parsed.parsed c.in-Some.name.now (rows_of (found_of c.in-Some.found.now)) c.in-Some.ensures.name c.in-Some.ensures.rows in
    let is = sym c.in_ok-parsed.ensures.ok.1 ∙ rows in
    (c.in_ok-parsed.ensures.ok.0, ap (asked_from None) is ∙ c.read_request.ensures.0, c.read_request.ensures.1)

pub returns-clause-refused : goal.returns-clause-refused
returns-clause-refused c _ none =
    no_command (subcommand_rows_of c.in_ok-parsed.parsed) c.in-None.ensures.rows
    (subst IsTakenOne (sym c.in_ok-parsed.ensures.ok.1) (taken (map string_bytes c.args.words.now) none))
