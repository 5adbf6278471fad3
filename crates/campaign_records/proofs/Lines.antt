-- A line of JSON is read back as the value that was printed.
use Rattle.std.proofs.Common.{◌≡◌, ◌∙◌, ◌≤◌, ◌<◌, ◌^◌, ℕ, arith, decimal, lt-ltb, Bool, true, false, cond, ◌&&◌, List, [], ◌∷◌, ◌++◌, IsUtf8, Some, refl, sym, ap, ap₂, append_assoc, append-nil}
use Rattle.std.specs.Prelude.{option_and_then, ⊤}
use Rattle.std.specs.Str.Parse.{AllDigits}
use Rattle.std.proofs.lemmas.Fmt.{decimal_is_IsNumeral}
use Rattle.std.proofs.lemmas.Str.{IsUtf8-append, IsUtf8-nil}
use Rattle.std.proofs.lemmas.Str.Parse.{digit_from_value}
use Rattle.json.specs.Json as json
use Rattle.json.specs.Json.{Json, null, boolean, number, string, array, object, Items, no_items, item, Members, no_members, member}
use Rattle.json.specs.Lex.{token, comma, colon, string_token, between, lex, punctuate, fresh, tokens}
use Rattle.json.specs.Print.{escape, quoted, token_text, begins, ends, separator, print, print_from, IsPrintable, ArePrintable}
use Rattle.json.specs.Token.{Token}
use Rattle.json.specs.Tree.{json_tokens, items_tokens, members_tokens, depth, HasNumbers}
use Rattle.json.specs.Word.{ends_word, word}
use Rattle.json.proofs.Printed.Numbers.{in_word-ended, lex-number}
use Rattle.json.proofs.Printed.Strings.{content-escape, lex-escape}
use Rattle.json.proofs.Printed.Tokens.{tokens-print}
use Rattle.json.proofs.Printed.Trees.{ArePrintable-json_tokens, value-json_tokens}
use Rattle.json.proofs.Printed.Utf8.{are_ascii, IsUtf8-are_ascii, IsUtf8-quoted, IsUtf8-key, IsUtf8-boolean, IsUtf8-separator}
use Rattle.serde_json.specs.Data.{Data}
use Rattle.serde_json.specs.Read.{max_depth, of_json, read}

-- ---- what stands behind tokens

-- lexemes are the same in front of texts that have the same, each of which ends a word
pub record AreAlike (a b : List ℕ) : Type 0 where
  pub lexemes : lex between a ≡ lex between b
  pub left : ends_word a ≡ true
  pub right : ends_word b ≡ true

quoted-first : (s r : List ℕ) → lex between (quoted s ++ r) ≡ token (Token.string s) ∷ lex between r
unfolding lex
quoted-first s r =
    ap (λ l. lex between (34 ∷ l)) (append_assoc (escape s) (34 ∷ []) r) ∙ ap₂ (λ o l. token (string_token o) ∷ l) (content-escape s r) (lex-escape s r)

quoted-same : (s a b : List ℕ) → lex between a ≡ lex between b → lex between (quoted s ++ a) ≡ lex between (quoted s ++ b)
quoted-same s a b e = quoted-first s a ∙ ap (λ l. token (Token.string s) ∷ l) e ∙ sym (quoted-first s b)

colon-first : (r : List ℕ) → lex between (58 ∷ r) ≡ colon ∷ lex between r
unfolding lex
colon-first r = refl

key-same : (s a b : List ℕ) → lex between a ≡ lex between b → lex between (token_text (Token.key s) ++ a) ≡ lex between (token_text (Token.key s) ++ b)
key-same s a b e =
    ap (lex between) (append_assoc (quoted s) (58 ∷ []) a)
    ∙ quoted-same s (58 ∷ a) (58 ∷ b) (colon-first a ∙ ap (λ l. colon ∷ l) e ∙ sym (colon-first b))
    ∙ sym (ap (lex between) (append_assoc (quoted s) (58 ∷ []) b))

word-same : (t : Token) (a b : List ℕ) → AreAlike a b → IsPrintable t → ends t ≡ true → lex between (token_text t ++ a) ≡ lex between (token_text t ++ b)
unfolding lex word
word-same Token.begin_object a b h p e = cc
word-same Token.end_object a b h p e = ap (λ l. token Token.end_object ∷ l) h.lexemes
word-same Token.begin_array a b h p e = cc
word-same Token.end_array a b h p e = ap (λ l. token Token.end_array ∷ l) h.lexemes
word-same (Token.key s) a b h p e = cc
word-same (Token.string s) a b h p e = quoted-same s a b h.lexemes
word-same (Token.number s) a b h p e = lex-number s a p h.left ∙ ap (λ l. token (Token.number s) ∷ l) h.lexemes ∙ sym (lex-number s b p h.right)
word-same (Token.boolean true) a b h p e =
    ap₂ (λ v l. token (cond v (Token.boolean true) Token.bad) ∷ l) (h.left ∙ sym h.right) (in_word-ended a h.left ∙ h.lexemes ∙ sym (in_word-ended b h.right))
word-same (Token.boolean false) a b h p e =
    ap₂ (λ v l. token (cond v (Token.boolean false) Token.bad) ∷ l) (h.left ∙ sym h.right) (in_word-ended a h.left ∙ h.lexemes ∙ sym (in_word-ended b h.right))
word-same Token.null a b h p e =
    ap₂ (λ v l. token (cond v Token.null Token.bad) ∷ l) (h.left ∙ sym h.right) (in_word-ended a h.left ∙ h.lexemes ∙ sym (in_word-ended b h.right))
word-same Token.bad a b h p e = absurd p

open-same : (t : Token) (a b : List ℕ) → lex between a ≡ lex between b → ends t ≡ false → lex between (token_text t ++ a) ≡ lex between (token_text t ++ b)
unfolding lex
open-same Token.begin_object a b h e = ap (λ l. token Token.begin_object ∷ l) h
open-same Token.end_object a b h e = cc
open-same Token.begin_array a b h e = ap (λ l. token Token.begin_array ∷ l) h
open-same Token.end_array a b h e = cc
open-same (Token.key s) a b h e = key-same s a b h
open-same (Token.string s) a b h e = cc
open-same (Token.number s) a b h e = cc
open-same (Token.boolean v) a b h e = cc
open-same Token.null a b h e = cc
open-same Token.bad a b h e = cc

comma-same : (v : Bool) (a b : List ℕ) → lex between a ≡ lex between b → lex between (cond v (44 ∷ []) [] ++ a) ≡ lex between (cond v (44 ∷ []) [] ++ b)
unfolding lex
comma-same true a b e = ap (λ l. comma ∷ l) e
comma-same false a b e = e

-- behind a value stands a comma, a closing bracket, or what ends a word
behind-value : (ts : List Token) (r : List ℕ) → ends_word r ≡ true → ArePrintable ts → ends_word (print_from true ts ++ r) ≡ true
unfolding print_from ArePrintable
behind-value [] r h p = h
behind-value (Token.begin_object ∷ ts) r h p = refl
behind-value (Token.end_object ∷ ts) r h p = refl
behind-value (Token.begin_array ∷ ts) r h p = refl
behind-value (Token.end_array ∷ ts) r h p = refl
behind-value (Token.key s ∷ ts) r h p = refl
behind-value (Token.string s ∷ ts) r h p = refl
behind-value (Token.number s ∷ ts) r h p = refl
behind-value (Token.boolean v ∷ ts) r h p = refl
behind-value (Token.null ∷ ts) r h p = refl
behind-value (Token.bad ∷ ts) r h p = absurd p.0

module _ (r : List ℕ) (blank : AreAlike r []) where
  tail-same : (c : Bool) (ts : List Token) → ArePrintable ts → lex between (print_from c ts ++ r) ≡ lex between (print_from c ts)
  unfolding print_from ArePrintable
  tail-same c [] h = blank.lexemes
  tail-same c (t ∷ ts) h =
      ap (lex between) (append_assoc (separator c t) (token_text t ++ print_from (ends t) ts) r
      ∙ ap (λ l. separator c t ++ l) (append_assoc (token_text t) (print_from (ends t) ts) r))
      ∙ comma-same (c && begins t) (token_text t ++ (print_from (ends t) ts ++ r)) (token_text t ++ print_from (ends t) ts)
      (go (ends t) refl (tail-same (ends t) ts h.1))
    where
      go : (v : Bool) → ends t ≡ v → lex between (print_from v ts ++ r) ≡ lex between (print_from v ts)
          → lex between (token_text t ++ (print_from (ends t) ts ++ r)) ≡ lex between (token_text t ++ print_from (ends t) ts)
      go true e ih = rw e (word-same t (print_from true ts ++ r) (print_from true ts) (record {
        lexemes = ih;
        left = behind-value ts r blank.left h.1;
        right = ap ends_word (sym (append-nil (print_from true ts))) ∙ behind-value ts [] blank.right h.1;
      }) h.0 e)
      go false e ih = rw e (open-same t (print_from false ts ++ r) (print_from false ts) ih e)

feed-blank : AreAlike (10 ∷ []) []
unfolding lex
feed-blank = record { lexemes = refl; left = refl; right = refl }

-- a line has the tokens that were printed
pub line-tokens : (ts : List Token) → ArePrintable ts → tokens (print ts ++ 10 ∷ []) ≡ ts
line-tokens ts h = ap (punctuate fresh) (tail-same (10 ∷ []) feed-blank false ts h) ∙ tokens-print ts h

-- ---- UTF-8

-- each string, number and key is UTF-8
abbrev mutual
  pub HasTexts : Json → Type 0
  HasTexts null = ⊤
  HasTexts (boolean b) = ⊤
  HasTexts (number s) = IsUtf8 s
  HasTexts (string s) = IsUtf8 s
  HasTexts (array js) = ItemsHaveTexts js
  HasTexts (object ms) = MembersHaveTexts ms

  pub ItemsHaveTexts : Items → Type 0
  ItemsHaveTexts no_items = ⊤
  ItemsHaveTexts (item j js) = HasTexts j × ItemsHaveTexts js

  pub MembersHaveTexts : Members → Type 0
  MembersHaveTexts no_members = ⊤
  MembersHaveTexts (member k j ms) = IsUtf8 k × HasTexts j × MembersHaveTexts ms

abbrev IsText : Token → Type 0
IsText Token.begin_object = ⊤
IsText Token.end_object = ⊤
IsText Token.begin_array = ⊤
IsText Token.end_array = ⊤
IsText (Token.key s) = IsUtf8 s
IsText (Token.string s) = IsUtf8 s
IsText (Token.number s) = IsUtf8 s
IsText (Token.boolean b) = ⊤
IsText Token.null = ⊤
IsText Token.bad = ⊤

abbrev AreTexts : List Token → Type 0
AreTexts [] = ⊤
AreTexts (t ∷ ts) = IsText t × AreTexts ts

text-utf8 : (t : Token) → IsText t → IsUtf8 (token_text t)
text-utf8 Token.begin_object h = IsUtf8-are_ascii (123 ∷ []) refl
text-utf8 Token.end_object h = IsUtf8-are_ascii (125 ∷ []) refl
text-utf8 Token.begin_array h = IsUtf8-are_ascii (91 ∷ []) refl
text-utf8 Token.end_array h = IsUtf8-are_ascii (93 ∷ []) refl
text-utf8 (Token.key s) h = IsUtf8-key s h
text-utf8 (Token.string s) h = IsUtf8-quoted s h
text-utf8 (Token.number s) h = h
text-utf8 (Token.boolean b) h = IsUtf8-boolean b
text-utf8 Token.null h = IsUtf8-are_ascii (110 ∷ 117 ∷ 108 ∷ 108 ∷ []) refl
text-utf8 Token.bad h = IsUtf8-nil

printed-utf8 : (c : Bool) (ts : List Token) → AreTexts ts → IsUtf8 (print_from c ts)
unfolding print_from
printed-utf8 c [] h = IsUtf8-nil
printed-utf8 c (t ∷ ts) h = IsUtf8-append (separator c t) (token_text t ++ print_from (ends t) ts) (IsUtf8-separator c t)
    (IsUtf8-append (token_text t) (print_from (ends t) ts) (text-utf8 t h.0) (printed-utf8 (ends t) ts h.1))

texts-append : (ts us : List Token) → AreTexts ts → AreTexts us → AreTexts (ts ++ us)
texts-append [] us h k = k
texts-append (t ∷ ts) us h k = (h.0, texts-append ts us h.1 k)

mutual
  tokens-texts : (j : Json) → HasTexts j → AreTexts (json_tokens j)
  tokens-texts null h = (tt, tt)
  tokens-texts (boolean b) h = (tt, tt)
  tokens-texts (number s) h = (h, tt)
  tokens-texts (string s) h = (h, tt)
  tokens-texts (array js) h = (tt, items-texts js h)
  tokens-texts (object ms) h = (tt, members-texts ms h)

  items-texts : (js : Items) → ItemsHaveTexts js → AreTexts (items_tokens js)
  items-texts no_items h = (tt, tt)
  items-texts (item j js) h = texts-append (json_tokens j) (items_tokens js) (tokens-texts j h.0) (items-texts js h.1)

  members-texts : (ms : Members) → MembersHaveTexts ms → AreTexts (members_tokens ms)
  members-texts no_members h = (tt, tt)
  members-texts (member k j ms) h = (h.0, texts-append (json_tokens j) (members_tokens ms) (tokens-texts j h.1) (members-texts ms h.2))

digits-ascii : (ds : List ℕ) → AllDigits 10 ds → are_ascii ds ≡ true
digits-ascii [] h = refl
digits-ascii (d ∷ ds) h = let k = digit_from_value d h.0 in ap₂ (λ u v. u && v) (lt-ltb d 128 (omega arith)) (digits-ascii ds h.1)

pub decimal-text : (n : ℕ) → n < 2 ^ 64 → IsUtf8 (decimal n)
decimal-text n h = IsUtf8-are_ascii (decimal n) (digits-ascii (decimal n) (decimal_is_IsNumeral n h).0.1)

-- a line is UTF-8, and is read back as the value
pub reads-back : (j : Json) (d : Data) → HasNumbers j → HasTexts j → depth j ≤ 127 → of_json j ≡ Some d
    → IsUtf8 (print (json_tokens j) ++ 10 ∷ []) × (read (print (json_tokens j) ++ 10 ∷ []) ≡ Some d)
reads-back j d numbers texts shallow is = (
  IsUtf8-append (print (json_tokens j)) (10 ∷ []) (printed-utf8 false (json_tokens j) (tokens-texts j texts)) (IsUtf8-are_ascii (10 ∷ []) refl),
  ap (λ ts. option_and_then of_json (option_and_then (λ p. json.if_last p.0 p.1) (json.value max_depth ts)))
      (line-tokens (json_tokens j) (ArePrintable-json_tokens j numbers) ∙ sym (append-nil (json_tokens j)))
      ∙ ap (λ o. option_and_then of_json (option_and_then (λ p. json.if_last p.0 p.1) o)) (value-json_tokens j max_depth [] shallow)
      ∙ is,
)
