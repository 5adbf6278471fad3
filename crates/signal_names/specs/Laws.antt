-- The signals of an unfolding have printed names, and no two of them the same.
use Rattle.std.specs.Prelude.{◌≡◌, ◌≢◌, ℕ, true, List, [], ◌∷◌, map, All, Ok}
use Rattle.cdc_base.specs.declared.signal.ResetPin.{ResetPin}
use Rattle.cdc_base.specs.declared.signal.Signal.{Signal}
use Rattle.verilog_ast.specs.declared.Source.{Source}
use Rattle.verilog_lex.specs.declared.token.Token.{Token}
use Rattle.verilog_lex.specs.Tokens.{tokens_of}
use Rattle.verilog_reading.specs.ItemReading.{IsSource}
use Rattle.verilog_reading.specs.Refusals.{IsEnded}
use Rattle.verilog_reading.specs.SourceTree.{DeclTree, BodyTree, decl, instance, ItemTree, ModuleTree, source_of}
use Rattle.flat_meaning.specs.Design.{Flat}
use Rattle.flat_unfolding.specs.Outcome.{Text, good}
use Rattle.flat_unfolding.specs.Declarations.{header_decls}
use Rattle.flat_unfolding.specs.Unfolding.{unfolded}
use Rattle.signal_names.specs.Paths.{is_visible, IsPrinted}

-- ---- names as texts give them

-- what an item names: a declaration, or an instance
abbrev pub IsNamedVisibly : BodyTree → Type 0
IsNamedVisibly (decl d) = is_visible d.name ≡ true
IsNamedVisibly (instance child params x ports) = is_visible x ≡ true
IsNamedVisibly b = Unit {0}

pub record IsModuleVisible (m : ModuleTree) : Type 0 where
  pub header : All (λ (d : DeclTree). is_visible d.name ≡ true) (header_decls m)
  pub items : All (λ (i : ItemTree). IsNamedVisibly i.body) m.items

abbrev pub IsSourceVisible : List ModuleTree → Type 0
IsSourceVisible modules = All IsModuleVisible modules

-- ---- names that differ

abbrev pub IsNotAmong : Text → List Text → Type 0
IsNotAmong x [] = Unit {0}
IsNotAmong x (y ∷ ys) = (x ≢ y) × IsNotAmong x ys

abbrev pub AreDifferent : List Text → Type 0
AreDifferent [] = Unit {0}
AreDifferent (x ∷ xs) = IsNotAmong x xs × AreDifferent xs

abbrev pub names_in : Flat → List Text
names_in f = map (λ (s : Signal). s.name) f.signals

pub record AreNames (names : List Text) : Type 0 where
  pub printed : All (IsPrinted []) names
  pub differ : AreDifferent names

-- the names of an unfolding's signals are printed ones that differ
abbrev pub NamesDiffer : Type 0
NamesDiffer = (modules : List ModuleTree) → IsSourceVisible modules → (top : Text) (resets : List ResetPin) (named : List Text) (f : Flat)
    → unfolded modules top resets named ≡ good f → AreNames (names_in f)

-- a printed name tells its path
abbrev pub NamesTellPaths : Type 0
NamesTellPaths = (text : Text) (a b : IsPrinted [] text) → (a.path ≡ b.path) × (a.own ≡ b.own)

-- the source that the tokens of a text are parsed as names with visible bytes; the parser tells it of tokens that end with their one end
abbrev pub ParsedAreVisible : Type 0
ParsedAreVisible = (text : List ℕ) (ts : List Token) (source : Source) → tokens_of text ≡ Ok ts → (IsEnded ts → IsSource ts (source_of source)) → IsSourceVisible (source_of source)
