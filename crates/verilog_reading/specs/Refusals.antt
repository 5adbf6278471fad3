-- What begins a source, and which token is the first that no source goes on with.
use Rattle.std.specs.Prelude.{ℕ, ◌≡◌, ◌≤◌, Bool, true, false, List, [], ◌∷◌, ◌++◌, None}
use Rattle.verilog_lex.specs.declared.token.Token.{Token}
use Rattle.verilog_reading.specs.Lexemes.{Spot, closing, end_in}
use Rattle.verilog_reading.specs.Outcome.{done, stop}
use Rattle.verilog_reading.specs.SourceTree.{ModuleTree, source_height}
use Rattle.verilog_reading.specs.ItemReading.{IsSource}
use Rattle.verilog_reading.specs.ItemReader.{read_source}

-- no closing end among them
abbrev pub NoEnd : List Token → Type 0
NoEnd [] = Unit {0}
NoEnd (t ∷ ts) = (end_in t ≡ None) × NoEnd ts

-- the tokens end with their one closing end
abbrev pub IsEnded : List Token → Type 0
IsEnded ts = (body : List Token) × (s : Spot) × (ts ≡ body ++ closing s ∷ []) × NoEnd body

-- a source, however deep, begins with these tokens
abbrev pub BeginsAny : List Token → Type 0
BeginsAny front = (more : List Token) × (ms : List ModuleTree) × IsSource (front ++ more) ms

-- a source that is no deeper than so many levels below the first begins with these tokens
abbrev pub Begins : ℕ → List Token → Type 0
Begins k front = (more : List Token) × (ms : List ModuleTree) × IsSource (front ++ more) ms × (source_height ms ≤ k)

-- the token behind these is the first that no source within the depth goes on with; deep tells that a deeper one does
pub record IsFirstRefused (k : ℕ) (deep : Bool) (before : List Token) (t : Token) : Type 0 where
  pub first : Begins k before
  pub here : Begins k (before ++ t ∷ []) → ⊥
  pub deeper : deep ≡ true → BeginsAny (before ++ t ∷ [])
  pub never : deep ≡ false → BeginsAny (before ++ t ∷ []) → ⊥

-- what the reader gives for tokens that end with their one end: the one source that they read as, or the first refused token
pub record IsExact (k : ℕ) (ts : List Token) : Type 0 where
  pub accepted : (ms : List ModuleTree) (rest : List Token) → read_source k ts ≡ done ms rest → (rest ≡ []) × IsSource ts ms × (source_height ms ≤ k)
  pub every : (ms : List ModuleTree) → IsSource ts ms → source_height ms ≤ k → read_source k ts ≡ done ms []
  pub refused : (deep : Bool) (rest : List Token) → read_source k ts ≡ stop deep rest
      → (before : List Token) × (t : Token) × (more : List Token) × (rest ≡ t ∷ more) × (ts ≡ before ++ t ∷ more) × IsFirstRefused k deep before t

abbrev pub ReaderIsExact : Type 0
ReaderIsExact = (k : ℕ) (ts : List Token) → IsEnded ts → IsExact k ts
