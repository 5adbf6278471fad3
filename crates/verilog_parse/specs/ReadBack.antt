-- What it is that a printed source reads as it.
use Rattle.std.specs.Prelude.{ℕ, ◌≡◌, List, Ok, map}
use Rattle.cdc_base.specs.declared.fault.Place.{Place}
use Rattle.verilog_lex.specs.declared.token.Token.{Token}
use Rattle.verilog_lex.specs.Tokens.{tokens_of}
use Rattle.verilog_reading.specs.ItemReading.{IsSource}
use Rattle.verilog_reading.specs.SourceTree.{ItemTree, ModuleTree, source_height}
use Rattle.verilog_parse.specs.Pieces.{source_pieces}
use Rattle.verilog_parse.specs.Written.{AreWritable}

abbrev pub nowhere : Place
nowhere = record { line = 0; column = 0 }

-- a source without its places
abbrev pub unplaced_item : ItemTree → ItemTree
unplaced_item i = record { place = nowhere; body = i.body }

abbrev pub unplaced_module : ModuleTree → ModuleTree
unplaced_module m = record { place = nowhere; name = m.name; ansi = m.ansi; params = m.params; ports = m.ports; items = map unplaced_item m.items }

abbrev pub unplaced : List ModuleTree → List ModuleTree
unplaced ms = map unplaced_module ms

-- some tokens read as the source, and a text can have its names and numbers
pub record IsPrintable (ms : List ModuleTree) : Type 0 where
  pub tokens : List Token
  pub reads : IsSource tokens ms
  pub writable : AreWritable (source_pieces ms)

-- the tokens of the text read as the source, places aside, and are no deeper
pub record ReadsBack (text : List ℕ) (ms : List ModuleTree) : Type 0 where
  pub tokens : List Token
  pub lexed : tokens_of text ≡ Ok tokens
  pub found : List ModuleTree
  pub reads : IsSource tokens found
  pub same : unplaced found ≡ unplaced ms
  pub as_deep : source_height found ≡ source_height ms
