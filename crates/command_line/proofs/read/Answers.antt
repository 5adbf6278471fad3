use Rattle.std.proofs.Common.{◌≡◌, ◌∙◌, List, ap, sym, inl, inr, map, string_bytes, Some, None, Result, Ok, Err, Option}
use Rattle.std.specs.Prelude.{IfOk, is_some}
use Rattle.clap.specs.Words.{Text, subcommand_of}
use Rattle.command_line.specs.declared.Page.{Page}
use Rattle.command_line.specs.declared.Refusal.{Refusal}
use Rattle.command_line.specs.declared.Request.{Request}
use Rattle.command_line.specs.Asked.{shown}
use Rattle.command_line.specs.Cli.{AsksFor, HasReading, IsInRange, asked_from, asked_in, asked_of, cli, page_of}
use Rattle.command_line.proofs.read.Goals as goal

page_asks : (words : List Text) (page : Page) → Some page ≡ page_of words → AsksFor words (shown page)
unfolding asked_in
page_asks words page is = record {
  accepted = inl (sym (ap (λ (o : Option Page). is_some o) is));
  asks = sym (ap (λ (o : Option Page). asked_from o (subcommand_of cli words)) is);
}

command_asks : (words : List Text) → None ≡ page_of words → (r : Result Request Refusal)
    → IfOk r (λ r. HasReading words × (asked_from None (subcommand_of cli words) ≡ Some (asked_of r)) × IsInRange (asked_of r)) → IfOk r (λ r. AsksFor words (asked_of r))
unfolding asked_in
command_asks words none (Ok r) h = record {
  accepted = inr h.0;
  asks = sym (ap (λ (o : Option Page). asked_from o (subcommand_of cli words)) none) ∙ h.1;
}
command_asks words none (Err e) h = tt

pub returns-in-Some-clause-accepted : goal.returns-in-Some-clause-accepted
returns-in-Some-clause-accepted c = page_asks (map string_bytes c.args.words.now) c.in-Some.page c.in-Some.ensures

pub returns-in-None-clause-accepted : goal.returns-in-None-clause-accepted
returns-in-None-clause-accepted c = command_asks (map string_bytes c.args.words.now) c.in-None.ensures _ c.read_command.ensures.accepted
