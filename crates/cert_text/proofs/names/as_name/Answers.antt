use Rattle.std.proofs.Common.{sym}
use Rattle.std.proofs.lemmas.Str.{IsUtf8-from_ascii}
use Rattle.cert_text.proofs.Ascii.{name_ascii}
use Rattle.cert_text.proofs.names.as_name.Goals as goal

pub returns-in-Err : goal.returns-in-Err
returns-in-Err c = absurd (c.in-Err.ensures.cases.0 (IsUtf8-from_ascii c.args.text.now (name_ascii c.args.text.now (sym c.if-not-is_name.ensures))))
