-- What ties a reader to a relation.
use Rattle.std.specs.Prelude.{ℕ, suc, ◌≡◌, ◌≤◌, ◌<◌, true, false, List, [], ◌∷◌, ◌++◌, length, Option, None}
use Rattle.verilog_lex.specs.declared.token.Token.{Token}
use Rattle.verilog_reading.specs.Outcome.{Outcome, done, stop}

-- what was taken reads as the value; and what stands before a refused token can be completed
abbrev pub Says : {A : Type 0} → (List Token → A → Type 0) → List Token → Outcome A → Type 0
Says P ts (done a rest) = (used : List Token) × (ts ≡ used ++ rest) × P used a
Says {A} P ts (stop deep rest) = (before : List Token) × (ts ≡ before ++ rest) × (more : List Token) × (a : A) × P (before ++ more) a

abbrev pub rest_of : {A : Type 0} → Outcome A → List Token
rest_of (done a rest) = rest
rest_of (stop d rest) = rest

abbrev pub with_rest : {A : Type 0} → List Token → Outcome A → Outcome A
with_rest more (done a rest) = done a more
with_rest more (stop d rest) = stop d more

abbrev pub SameHead : List Token → List Token → Type 0
SameHead [] more = more ≡ []
SameHead (t ∷ ts) more = (others : List Token) × (more ≡ t ∷ others)

abbrev pub LocalAt : {A : Type 0} → (List Token → Outcome A) → List Token → Outcome A → Type 0
LocalAt r ts o = (before : List Token) × (ts ≡ before ++ rest_of o) × ((more : List Token) → SameHead (rest_of o) more → r (before ++ more) ≡ with_rest more o)

-- the outcome depends on no token behind the first of the rest
abbrev pub Local : {A : Type 0} → (List Token → Outcome A) → Type 0
Local r = (ts : List Token) → LocalAt r ts (r ts)

-- with more levels the outcome is the same, but for a token that is refused for its depth: that one is passed
abbrev pub Above : {A : Type 0} → Outcome A → Outcome A → Type 0
Above (done a rest) o = o ≡ done a rest
Above (stop false rest) o = o ≡ stop false rest
Above (stop true rest) o = length (rest_of o) < length rest

-- the test finds nothing in the next token
abbrev pub Free : {B : Type 0} → (Token → Option B) → List Token → Type 0
Free test [] = Unit {0}
Free test (t ∷ ts) = test t ≡ None

-- what reads as a tree that is low enough
abbrev pub Within : {A : Type 0} → (List Token → A → Type 0) → (A → ℕ) → ℕ → List Token → A → Type 0
Within R tall k u a = R u a × (tall a ≤ k)

-- the four laws of a reader that has so many levels left, and the one of the relation alone
abbrev pub SaysAtEachDepth : {A : Type 0} → (List Token → A → Type 0) → (A → ℕ) → (ℕ → List Token → Outcome A) → Type 0
SaysAtEachDepth R tall r = (k : ℕ) (ts : List Token) → Says (Within R tall k) ts (r k ts)

abbrev pub LocalAtEachDepth : {A : Type 0} → (ℕ → List Token → Outcome A) → Type 0
LocalAtEachDepth r = (k : ℕ) → Local (r k)

-- what reads and is low enough is read, where what stands behind it does not go on with it
abbrev pub CompleteAtEachDepth : {A : Type 0} → (List Token → A → Type 0) → (A → ℕ) → (A → List Token → Type 0) → (ℕ → List Token → Outcome A) → Type 0
CompleteAtEachDepth {A} R tall Ends r = (u : List Token) (a : A) → R u a → (k : ℕ) → tall a ≤ k → (rest : List Token) → Ends a rest → r k (u ++ rest) ≡ done a rest

abbrev pub DeeperByOne : {A : Type 0} → (ℕ → List Token → Outcome A) → Type 0
DeeperByOne r = (k : ℕ) (ts : List Token) → Above (r k ts) (r (suc k) ts)

abbrev pub DeeperByThree : {A : Type 0} → (ℕ → List Token → Outcome A) → Type 0
DeeperByThree r = (k : ℕ) (ts : List Token) → Above (r k ts) (r (suc (suc (suc k))) ts)

-- a list has at most one reading
abbrev pub AtMostOneReading : {A : Type 0} → (List Token → A → Type 0) → Type 0
AtMostOneReading {A} R = (u : List Token) (a b : A) → R u a → R u b → a ≡ b
