-- Tokens that grow entry by entry.
use Rattle.std.proofs.Common.{◌≡◌, ◌∙◌, ℕ, List, [], ◌∷◌, ◌++◌, Result, Ok, Err, ap, sym, refl, append_assoc}
use Rattle.std.specs.Prelude.{⊤, IfOk}
use Rattle.std.proofs.lemmas.Result.{IfOk-equal}
use Rattle.cdc_base.specs.declared.list.NoMemory.{NoMemory}
use Rattle.json.specs.Token.{Token, begin_object, end_object, key}
use Rattle.json.specs.Tree.{json_tokens, members_tokens}
use Rattle.report.specs.VerdictJson.{Entries, entry_tokens, members_from, object_of}

entry_tokens-append : (es fs : Entries) → entry_tokens (es ++ fs) ≡ entry_tokens es ++ entry_tokens fs
entry_tokens-append [] fs = refl
entry_tokens-append (e ∷ es) fs =
    ap (λ t. (key e.0 ∷ json_tokens e.1) ++ t) (entry_tokens-append es fs) ∙ sym (append_assoc (key e.0 ∷ json_tokens e.1) (entry_tokens es) (entry_tokens fs))

members-from : (es : Entries) → members_tokens (members_from es) ≡ entry_tokens es ++ end_object ∷ []
members-from [] = refl
members-from (e ∷ es) =
    ap (λ t. key e.0 ∷ (json_tokens e.1 ++ t)) (members-from es) ∙ sym (append_assoc (key e.0 ∷ json_tokens e.1) (entry_tokens es) (end_object ∷ []))

-- further entries of an object that is open
pub entries-next : (old new : List Token) (es fs : Entries) → old ≡ begin_object ∷ entry_tokens es → new ≡ old ++ entry_tokens fs → new ≡ begin_object ∷ entry_tokens (es ++ fs)
entries-next old new es fs is added = added ∙ ap (λ t. t ++ entry_tokens fs) is ∙ ap (λ t. begin_object ∷ t) (sym (entry_tokens-append es fs))

-- the object is closed
pub object-ends : (old new : List Token) (es : Entries) → old ≡ begin_object ∷ entry_tokens es → new ≡ old ++ end_object ∷ [] → new ≡ json_tokens (object_of es)
object-ends old new es is added = added ∙ ap (λ t. t ++ end_object ∷ []) is ∙ ap (λ t. begin_object ∷ t) (sym (members-from es))

pub grows : (old new newer front more : List Token) → new ≡ old ++ front → newer ≡ new ++ more → newer ≡ old ++ (front ++ more)
grows old new newer front more is added = added ∙ ap (λ t. t ++ more) is ∙ append_assoc old front more

pub grows-last : (done : Result ⊤ NoMemory) (old new newer front more : List Token) → new ≡ old ++ front → IfOk done (λ _. newer ≡ new ++ more) → IfOk done (λ _. newer ≡ old ++ (front ++ more))
grows-last done old new newer front more is added =
    IfOk-equal done newer (new ++ more) (old ++ (front ++ more)) added (ap (λ t. t ++ more) is ∙ append_assoc old front more)

-- the result is another name of the value
pub IfOk-same : (r : Result (List ℕ) NoMemory) (x y : List ℕ) → IfOk r (λ t. t ≡ x) → x ≡ y → IfOk r (λ t. t ≡ y)
IfOk-same (Ok t) x y is same = is ∙ same
IfOk-same (Err e) x y is same = is
