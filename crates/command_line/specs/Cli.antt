-- The command line: one command with a subcommand for each request, as clap reads it.
use Rattle.std.specs.Prelude.{◌≡◌, ℕ, true, List, [], ◌∷◌, Option, Some, None, codes}
use Rattle.std.specs.Prelude.{is_some, unwrap_or, pos, ◌≤◌, ◌⊎◌, if◌then◌else◌}
use Rattle.std.specs.Option.{option_map_or}
use Rattle.std.specs.Str.Parse.{digits_value, IsNumeral, without_leading_plus}
use Rattle.std.specs.Str.{bytes_eq}
use Rattle.clap.specs.Words.{App, Row, Rule, Text, new_app, new_rule, with_rule, with_subcommand}
use Rattle.clap.specs.Words.{first_of, one_of, fault_of, subcommand_of}
use Rattle.clap.specs.Simple.{on_top}
use Rattle.clap.specs.declared.builder.action.ArgAction.TheVariants.{SetTrue}
use Rattle.clap.specs.declared.builder.value_parser.ValueParser.TheVariants as vp
use Rattle.command_line.specs.Asked.{Asked, audit, replay, selftest, certify, check, campaign, shown}
use Rattle.command_line.specs.declared.Request.{Request}
use Rattle.command_line.specs.declared.Request.TheVariants.{Audit, Replay, Selftest, Certify, Check, Campaign, Show}
use Rattle.command_line.specs.declared.Page.{Page}
use Rattle.command_line.specs.declared.Page.TheVariants.{Help, Version}

-- `--json`
abbrev pub json_rule : Rule
json_rule = record (new_rule (codes "json")) { long = Some (codes "json"); action = Some SetTrue }

-- a word that must be there
abbrev pub required_rule : Text → Rule
required_rule id = record (new_rule id) { required = true }

-- a number that must be there, from low to high
abbrev pub number_rule : Text → ℕ → ℕ → Rule
number_rule id low high = record (required_rule id) { parser = Some (vp.Signed (pos low) (pos high)) }

-- `audit [--json] NET CON`
abbrev pub audit_app : App
audit_app = with_rule (with_rule (with_rule (new_app (codes "audit")) json_rule)
    (required_rule (codes "NET"))) (required_rule (codes "CON"))

-- `replay NET CON RUN`
abbrev pub replay_app : App
replay_app = with_rule (with_rule (with_rule (new_app (codes "replay")) (required_rule (codes "NET")))
    (required_rule (codes "CON"))) (required_rule (codes "RUN"))

-- `selftest N`
abbrev pub selftest_app : App
selftest_app = with_rule (new_app (codes "selftest")) (number_rule (codes "N") 1 10000)

-- `certify NET CON`
abbrev pub certify_app : App
certify_app = with_rule (with_rule (new_app (codes "certify")) (required_rule (codes "NET"))) (required_rule (codes "CON"))

-- `check NET CON CERT`
abbrev pub check_app : App
check_app = with_rule (with_rule (with_rule (new_app (codes "check")) (required_rule (codes "NET")))
    (required_rule (codes "CON"))) (required_rule (codes "CERT"))

-- `campaign STEPS SEED NET CON`, first without the files
abbrev pub numbered_app : App
numbered_app = with_rule (with_rule (new_app (codes "campaign")) (number_rule (codes "STEPS") 1 10000)) (number_rule (codes "SEED") 0 4294967295)

abbrev pub campaign_app : App
campaign_app = with_rule (with_rule numbered_app (required_rule (codes "NET"))) (required_rule (codes "CON"))

-- the command takes no word for the program's name and wants a subcommand
abbrev pub cli_head : App
cli_head = on_top (λ s. record s { no_binary_name = true; subcommand_required = true; disable_help_subcommand = true }) (new_app (codes "cdcaudit"))

-- it has these subcommands
abbrev pub cli : App
cli = with_subcommand (with_subcommand (with_subcommand (with_subcommand (with_subcommand (with_subcommand cli_head
    audit_app.top) replay_app.top) selftest_app.top) certify_app.top) check_app.top) campaign_app.top

-- the words for a page, which stand alone
abbrev pub pages : List (Text × Page)
pages = (codes "help", Help) ∷ (codes "--help", Help) ∷ (codes "-h", Help) ∷ (codes "version", Version) ∷ (codes "--version", Version) ∷ (codes "-V", Version) ∷ []

abbrev pub page_in : List (Text × Page) → Text → Option Page
page_in [] word = None
page_in (p ∷ rest) word = if bytes_eq p.0 word then Some p.1 else page_in rest word

abbrev pub page_named : Text → Option Page
page_named word = page_in pages word

abbrev pub page_of : List Text → Option Page
page_of (word ∷ []) = page_named word
page_of words = None

-- clap's reading of the command finds no fault in the words
abbrev pub HasReading : List Text → Type 0
HasReading words = fault_of cli words ≡ []

-- the words are one for a page, or have a reading
abbrev pub IsAccepted : List Text → Type 0
IsAccepted words = (is_some (page_of words) ≡ true) ⊎ HasReading words

-- the first value of an argument, and the empty text where it has none
abbrev pub text_of : Text → List Row → Text
text_of id rows = unwrap_or (first_of id rows) []

-- the digits of an argument's number, behind a sign
abbrev pub digits_of : Text → List Row → Text
digits_of id rows = without_leading_plus (unwrap_or (one_of id rows) [])

-- the number that an argument writes
abbrev pub number_of : Text → List Row → ℕ
number_of id rows = digits_value 10 (digits_of id rows)

-- the argument writes a number from low to high
pub record HasNumber (low high : ℕ) (id : Text) (rows : List Row) : Type 0 where
  pub there : is_some (one_of id rows) ≡ true
  pub numeral : IsNumeral 10 (digits_of id rows)
  pub least : low ≤ number_of id rows
  pub most : number_of id rows ≤ high

-- what a subcommand with its values asks for
abbrev pub asked_by : Text → List Row → Option Asked
asked_by name rows =
    if bytes_eq name (codes "audit") then Some (audit (bytes_eq (text_of (codes "json") rows) (codes "true")) (text_of (codes "NET") rows) (text_of (codes "CON") rows))
    else (if bytes_eq name (codes "replay") then Some (replay (text_of (codes "NET") rows) (text_of (codes "CON") rows) (text_of (codes "RUN") rows))
    else (if bytes_eq name (codes "selftest") then Some (selftest (number_of (codes "N") rows))
    else (if bytes_eq name (codes "certify") then Some (certify (text_of (codes "NET") rows) (text_of (codes "CON") rows))
    else (if bytes_eq name (codes "check") then Some (check (text_of (codes "NET") rows) (text_of (codes "CON") rows) (text_of (codes "CERT") rows))
    else (if bytes_eq name (codes "campaign") then Some (campaign (number_of (codes "STEPS") rows) (number_of (codes "SEED") rows) (text_of (codes "NET") rows) (text_of (codes "CON") rows))
    else None)))))

abbrev pub asked_from : Option Page → Option (Text × List Row) → Option Asked
asked_from (Some page) found = Some (shown page)
asked_from None None = None
asked_from None (Some (name, rows)) = asked_by name rows

-- what words that are accepted ask for
unfoldable pub asked_in : List Text → Option Asked
asked_in words = asked_from (page_of words) (subcommand_of cli words)

-- the words are accepted, and ask for this
pub record AsksFor (words : List Text) (asked : Asked) : Type 0 where
  pub accepted : IsAccepted words
  pub asks : asked_in words ≡ Some asked

-- counts of channels and of steps are from 1 to 10,000, and a seed is below 2^32
abbrev pub IsInRange : Asked → Type 0
IsInRange (selftest channels) = (1 ≤ channels) × (channels ≤ 10000)
IsInRange (campaign steps seed net con) = (1 ≤ steps) × (steps ≤ 10000) × (seed ≤ 4294967295)
IsInRange _ = Unit {0}

-- the files that it names, in the order of the words
abbrev pub named_files : Asked → List Text
named_files (audit json net con) = net ∷ con ∷ []
named_files (replay net con run) = net ∷ con ∷ run ∷ []
named_files (selftest channels) = []
named_files (certify net con) = net ∷ con ∷ []
named_files (check net con cert) = net ∷ con ∷ cert ∷ []
named_files (campaign steps seed net con) = net ∷ con ∷ []
named_files (shown page) = []

-- the files that the words name
abbrev pub file_words : List Text → List Text
file_words words = option_map_or named_files (asked_in words) []

-- what a request asks for
abbrev pub asked_of : Request → Asked
asked_of (Audit json net con) = audit json net.now con.now
asked_of (Replay net con run) = replay net.now con.now run.now
asked_of (Selftest channels) = selftest channels
asked_of (Certify net con) = certify net.now con.now
asked_of (Check net con cert) = check net.now con.now cert.now
asked_of (Campaign steps seed net con) = campaign steps seed net.now con.now
asked_of (Show page) = shown page

-- a name of one of the subcommands
abbrev pub IsCommand : Text → Type 0
IsCommand name = (name ≡ codes "audit") ⊎ ((name ≡ codes "replay") ⊎ ((name ≡ codes "selftest") ⊎ ((name ≡ codes "certify")
    ⊎ ((name ≡ codes "check") ⊎ (name ≡ codes "campaign")))))

-- a subcommand with the values that it has where the command takes the words: its numbers are there and in their ranges
pub record IsTaken (name : Text) (rows : List Row) : Type 0 where
  pub command : IsCommand name
  pub channels : name ≡ codes "selftest" → HasNumber 1 10000 (codes "N") rows
  pub steps : name ≡ codes "campaign" → HasNumber 1 10000 (codes "STEPS") rows
  pub seed : name ≡ codes "campaign" → HasNumber 0 4294967295 (codes "SEED") rows
