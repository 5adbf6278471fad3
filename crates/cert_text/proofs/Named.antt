-- Bits that are looked up one by one.
use Rattle.std.proofs.Common.{◌≡◌, ◌∙◌, refl, sym, ap, ◌+◌, ◌<◌, ℕ, Option, Some, None, List, [], ◌∷◌, ◌++◌, append_assoc, length, drop, get_or}
use Rattle.std.proofs.lemmas.List.{drop_more, append-nil}
use Rattle.cdc_base.specs.declared.bit.Bit.{Bit}
use Rattle.cdc_base.specs.declared.signal.Signal.{Signal}
use Rattle.clock_constraints.specs.Refusals.{Text}
use Rattle.cert_text.specs.Names.{bit_named, bits_named, in_front}

-- several in front of others, where these are there
abbrev pub in_fronts : List Bit → Option (List Bit) → Option (List Bit)
in_fronts bs None = None
in_fronts bs (Some cs) = Some (bs ++ cs)

pub fronts_none : (o : Option (List Bit)) → o ≡ in_fronts [] o
fronts_none None = refl
fronts_none (Some cs) = refl

fronts_more : (bs : List Bit) (b : Bit) (o : Option (List Bit)) → in_fronts bs (in_front (Some b) o) ≡ in_fronts (bs ++ b ∷ []) o
fronts_more bs b None = refl
fronts_more bs b (Some cs) = ap Some (sym (append_assoc bs (b ∷ []) cs))

module _ (signals : List Signal) (words : List Text) (whole : Option (List Bit)) (bits : List Bit) (i : ℕ) (d : Text) (l : i < length words)
    (h : whole ≡ in_fronts bits (bits_named signals (drop i words))) where
  at_word : whole ≡ in_fronts bits (in_front (bit_named signals (get_or words i d)) (bits_named signals (drop (i + 1) words)))
  at_word = h ∙ ap (λ ws. in_fronts bits (bits_named signals ws)) (drop_more words i d l)

  -- one bit more
  pub bit_more : (b : Bit) → Some b ≡ bit_named signals (get_or words i d) → whole ≡ in_fronts (bits ++ b ∷ []) (bits_named signals (drop (i + 1) words))
  bit_more b e = at_word ∙ ap (λ o. in_fronts bits (in_front o (bits_named signals (drop (i + 1) words)))) (sym e) ∙ fronts_more bits b (bits_named signals (drop (i + 1) words))

  -- an unknown one
  pub bit_unknown : None ≡ bit_named signals (get_or words i d) → None ≡ whole
  bit_unknown e = sym (at_word ∙ ap (λ o. in_fronts bits (in_front o (bits_named signals (drop (i + 1) words)))) (sym e))

-- all of them
pub bits_all : (bits : List Bit) → in_fronts bits (Some []) ≡ Some bits
bits_all bits = ap Some (append-nil bits)
