-- What a reader gives: a value and the rest, or a refusal at the first token of the rest.
use Rattle.std.specs.Prelude.{Bool, true, false, List, [], ◌∷◌, Option, Some, None}
use Rattle.verilog_lex.specs.declared.token.Token.{Token}

-- deep: deeper sources go on with that token
pub data Outcome (A : Type 0) : Type 0 where
  done : A → List Token → Outcome A
  stop : Bool → List Token → Outcome A

-- goes on with what was read
abbrev pub then_read : {A B : Type 0} → Outcome A → (A → List Token → Outcome B) → Outcome B
then_read (done a rest) f = f a rest
then_read (stop deep rest) f = stop deep rest

abbrev pub on_option : {A B : Type 0} → Option B → (B → Outcome A) → Outcome A → Outcome A
on_option (Some b) f other = f b
on_option None f other = other

-- looks at the next token: where the test gives something, that goes on behind it, else the other does before it
abbrev pub next : {A B : Type 0} → (Token → Option B) → (B → List Token → Outcome A) → (List Token → Outcome A) → List Token → Outcome A
next test f other [] = other []
next test f other (t ∷ ts) = on_option (test t) (λ b. f b ts) (other (t ∷ ts))

-- no source goes on with the next token
abbrev pub refuse : {A : Type 0} → List Token → Outcome A
refuse ts = stop false ts

-- the token that has to stand next
abbrev pub expect : {A B : Type 0} → (Token → Option B) → (B → List Token → Outcome A) → List Token → Outcome A
expect test f = next test f refuse

-- the token that the test finds opens a further level, and none is left
abbrev pub deep : {A B : Type 0} → (Token → Option B) → (List Token → Outcome A) → List Token → Outcome A
deep test other [] = other []
deep test other (t ∷ ts) = on_option (test t) (λ b. stop true (t ∷ ts)) (other (t ∷ ts))

-- the token that the test finds opens a further level, with the readers of the level below where one is left
abbrev pub enter : {A B D : Type 0} → Option D → (Token → Option B) → (D → B → List Token → Outcome A) → (List Token → Outcome A) → List Token → Outcome A
enter None test f other ts = deep test other ts
enter (Some r) test f other ts = next test (f r) other ts

-- as next, but the token that the test finds is left there
abbrev pub peek : {A B : Type 0} → (Token → Option B) → (List Token → Outcome A) → (List Token → Outcome A) → List Token → Outcome A
peek test f other [] = other []
peek test f other (t ∷ ts) = on_option (test t) (λ b. f (t ∷ ts)) (other (t ∷ ts))

-- as enter, but the token that the test finds is left there
abbrev pub descend : {A B D : Type 0} → Option D → (Token → Option B) → (D → List Token → Outcome A) → (List Token → Outcome A) → List Token → Outcome A
descend None test f other ts = deep test other ts
descend (Some r) test f other ts = peek test (f r) other ts
