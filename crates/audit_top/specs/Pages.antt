-- The texts that are shown without any file.
use Rattle.std.specs.Prelude.{ℕ, List, [], ◌∷◌, ◌++◌, codes}
use Rattle.command_line.specs.declared.Page.{Page}
use Rattle.command_line.specs.declared.Page.TheVariants.{Help, Version}

unfoldable pub help_lines : List (List ℕ)
help_lines =
    codes "usage: cdcaudit COMMAND WORDS"
    ∷ []
    ∷ codes "  audit [--json] NET CON       the verdict on all crossings, as text or as JSON"
    ∷ codes "  replay NET CON RUN           the run that a record fixes"
    ∷ codes "  selftest N                   audit of the generated design of N channels"
    ∷ codes "  certify NET CON              a certificate of a clean design"
    ∷ codes "  check NET CON CERT           does the certificate hold?"
    ∷ codes "  campaign STEPS SEED NET CON  eight random runs in search of a bad capture"
    ∷ codes "  help, --help, -h             this page"
    ∷ codes "  version, --version, -V       name and version"
    ∷ []
    ∷ codes "  NET       a netlist in Verilog"
    ∷ codes "  CON       clock constraints in TOML, or in SDC where the word ends in .sdc"
    ∷ codes "  RUN       a run record in JSON"
    ∷ codes "  CERT      a certificate"
    ∷ codes "  N, STEPS  a number from 1 to 10000"
    ∷ codes "  SEED      a number from 0 to 4294967295"
    ∷ []
    ∷ codes "status 0  clean, or done"
    ∷ codes "status 1  a finding without a waiver, a certificate that fails, or a capture"
    ∷ codes "status 2  the words are refused"
    ∷ codes "status 3  NET is refused"
    ∷ codes "status 4  CON is refused"
    ∷ codes "status 5  RUN or CERT is refused"
    ∷ codes "status 6  a file can't be read"
    ∷ codes "status 7  the output can't be written"
    ∷ codes "status 8  out of memory"
    ∷ codes "status 9  findings, each with a waiver"
    ∷ []
    ∷ codes "Formats, schemes and the cure for each finding: the folder docs"
    ∷ []

unfoldable pub version_lines : List (List ℕ)
version_lines = codes "cdcaudit 1.0" ∷ []

abbrev pub lines_of : Page → List (List ℕ)
lines_of Help = help_lines
lines_of Version = version_lines

-- each line is ended by a line feed
abbrev pub text_of_lines : List (List ℕ) → List ℕ
text_of_lines [] = []
text_of_lines (line ∷ lines) = (line ++ 10 ∷ []) ++ text_of_lines lines

abbrev pub page_text : Page → List ℕ
page_text page = text_of_lines (lines_of page)

-- the line for words that are refused
abbrev pub usage_line : List ℕ
usage_line = codes "usage: cdcaudit audit [--json] NET CON | replay NET CON RUN | selftest N | certify NET CON | check NET CON CERT | campaign STEPS SEED NET CON | help" ++ 10 ∷ []
