-- The races of settling flops.
use Rattle.std.proofs.Common.{◌≡◌, ◌≢◌, ◌∙◌, ℕ, Bool, true, false, cond, not, ◌||◌, List, [], ◌∷◌, map, Contains, Option, Some, None, inl, inr, refl, sym, ap, ap₂, subst}
use Rattle.std.specs.Prelude.{All}
use Rattle.std.specs.Bool.{beq}
use Rattle.std.specs.List.{AllByRecursion}
use Rattle.std.proofs.lemmas.List.Elements.{All-cons, All-nil}
use Rattle.cdc_base.specs.declared.bit.Bit.{Bit}
use Rattle.cell_graph.specs.declared.net.Net.{Net}
use Rattle.cell_graph.specs.Cofactor.{same}
use Rattle.cell_graph.specs.Reading.{bit_eq, Reading}
use Rattle.cell_graph.specs.Tree.{bit_at}
use Rattle.cell_graph.specs.Values.{reading_of}
use Rattle.cell_graph.proofs.Bits.{bit_eq-true, bit_eq-refl}
use Rattle.cell_graph.proofs.Sound.{IsBit, same_sound}
use Rattle.cdc_model.specs.declared.record.Race.{Race}
use Rattle.cdc_model.specs.declared.scheme.Crossing.{Crossing}
use Rattle.cdc_model.specs.Design.{flipped}
use Rattle.cdc_model.specs.Nets.{next_tree, is_within, is_register_bit}
use Rattle.cdc_model.specs.Replay.{has_bit, race_of, StepFault, first_fault, or_else}
use Rattle.cdc_model.proofs.Ascending.{here, later, parts, nothing_in}
use Rattle.settling_sim.specs.Reader.{next_with}
use Rattle.settling_sim.specs.Runs.{IsRace}
use Rattle.settling_sim.specs.Trial.{take_races}
use Rattle.settling_sim.specs.Words.{put_bit}
use Rattle.campaign.specs.declared.toss.Toss.{Toss}
use Rattle.campaign.specs.Draws.{word, behind, with_words}
use Rattle.campaign.specs.Drawn.{toss, race_of_toss}
use Rattle.campaign.specs.Tested.{put_tosses}
use Rattle.campaign.proofs.Passing.{AreApart, of-each}

-- a register bit that is a plain copy of a bit of the net
pub record IsFlop (net : Net) (c : Crossing) : Type 0 where
  pub register : is_register_bit net c.to ≡ true
  pub copy : same [] (next_tree net c.to.sig) c.to.at ≡ Some c.from
  pub within : is_within net c.from ≡ true

-- a copy takes what the bit that it copies has, flipped or not
pub copy-takes : (net : Net) (words : List ℕ) (bs : List Bit) (x b : Bit) → same [] (next_tree net x.sig) x.at ≡ Some b → next_with net words bs x ≡ flipped (has_bit bs) (reading_of words) b
copy-takes net words bs x b e =
    subst (λ (o : Option Bit). IsBit (flipped (has_bit bs) (reading_of words)) o (next_with net words bs x)) e (same_sound [] (flipped (has_bit bs) (reading_of words)) tt (next_tree net x.sig) x.at)

-- flipped, the bit has its other value
flip-only : (r : Reading) (b : Bit) → flipped (has_bit (b ∷ [])) r b ≡ not (r b)
flip-only r b = ap (λ t. cond (t || false) (not (r b)) (r b)) (bit_eq-refl b)

pub race-bit : (t : Toss) → (race_of_toss t).bit ≡ t.flop
race-bit t = go t.other
  where
    go : (o : Bool) → (race_of_toss (record t { other = o })).bit ≡ t.flop
    go true = refl
    go false = refl

module _ (net : Net) (words : List ℕ) where
  abbrev race : ℕ → Crossing → Race
  race w c = race_of_toss (toss w c)

  -- a flop takes its source's other value, or the value that the source has
  taken-value : (w : ℕ) (c : Crossing) → IsFlop net c → not (beq (reading_of words c.from) (bit_at w 0)) ≡ next_with net words (race w c).flip (race w c).bit
  taken-value w c flop = go (bit_at w 0)
    where
      beq-true : (v : Bool) → not (beq v true) ≡ not v
      beq-true true = refl
      beq-true false = refl

      beq-false : (v : Bool) → not (beq v false) ≡ v
      beq-false true = refl
      beq-false false = refl

      go : (o : Bool) → not (beq (reading_of words c.from) o)
          ≡ next_with net words (race_of_toss (record { flop = c.to; source = c.from; other = o })).flip (race_of_toss (record { flop = c.to; source = c.from; other = o })).bit
      go true = beq-true (reading_of words c.from) ∙ sym (copy-takes net words (c.from ∷ []) c.to c.from flop.copy ∙ flip-only (reading_of words) c.from)
      go false = beq-false (reading_of words c.from) ∙ sym (copy-takes net words [] c.to c.from flop.copy)

  -- so flops take what their races say
  pub tossed-are : (cs : List Crossing) (rng ws : List ℕ) → AllByRecursion (IsFlop net) cs
      → put_tosses words (with_words toss rng cs) ws ≡ take_races (next_with net words) (map race_of_toss (with_words toss rng cs)) ws
  tossed-are [] rng ws all = refl
  tossed-are (c ∷ cs) rng ws all =
      ap₂ (λ x v. put_tosses words (with_words toss (behind rng) cs) (put_bit ws x v)) (sym (race-bit (toss (word rng) c))) (taken-value (word rng) c all.0)
      ∙ tossed-are cs (behind rng) (put_bit ws (race (word rng) c).bit (next_with net words (race (word rng) c).flip (race (word rng) c).bit)) all.1

  -- its other bits would give it the other value
  pub other-differs : (w : ℕ) (c : Crossing) (bs : List Bit) → IsFlop net c → (race w c).other ≡ Some bs → next_with net words bs c.to ≢ next_with net words (race w c).flip c.to
  other-differs w c bs flop = go (bit_at w 0)
    where
      turned : (v : Bool) → not v ≡ v → ⊥
      turned true e = cc
      turned false e = cc

      plain : next_with net words [] c.to ≡ reading_of words c.from
      plain = copy-takes net words [] c.to c.from flop.copy

      flips : next_with net words (c.from ∷ []) c.to ≡ not (reading_of words c.from)
      flips = copy-takes net words (c.from ∷ []) c.to c.from flop.copy ∙ flip-only (reading_of words) c.from

      go : (o : Bool) → (race_of_toss (record { flop = c.to; source = c.from; other = o })).other ≡ Some bs
          → next_with net words bs c.to ≢ next_with net words (race_of_toss (record { flop = c.to; source = c.from; other = o })).flip c.to
      go true e f =
          let is : [] ≡ bs = cc in
          turned (reading_of words c.from) (sym flips ∙ sym f ∙ ap (λ l. next_with net words l c.to) (sym is) ∙ plain)
      go false e f =
          let is : c.from ∷ [] ≡ bs = cc in
          turned (reading_of words c.from) (sym flips ∙ ap (λ l. next_with net words l c.to) is ∙ f ∙ plain)

-- ---- races of a step

-- each race is of a register bit, over bits of the net
pub races-fit : (net : Net) (cs : List Crossing) (rng : List ℕ) → AllByRecursion (IsFlop net) cs → All (IsRace net) (map race_of_toss (with_words toss rng cs))
races-fit net [] rng all = All-nil (IsRace net)
races-fit net (c ∷ cs) rng all = All-cons (IsRace net) (race_of_toss (toss (word rng) c)) (map race_of_toss (with_words toss (behind rng) cs)) (go (bit_at (word rng) 0)) (races-fit net cs (behind rng) all.1)
  where
    one : All (λ b. is_within net b ≡ true) (c.from ∷ [])
    one = All-cons (λ b. is_within net b ≡ true) c.from [] all.0.within (All-nil (λ b. is_within net b ≡ true))

    some-is : (xs bs : List Bit) → Some xs ≡ Some bs → All (λ b. is_within net b ≡ true) xs → All (λ b. is_within net b ≡ true) bs
    some-is xs bs e h = let is : xs ≡ bs = cc in subst (λ l. All (λ b. is_within net b ≡ true) l) is h

    go : (o : Bool) → IsRace net (race_of_toss (record { flop = c.to; source = c.from; other = o }))
    go true = record { bit = all.0.register; flips = one; others = λ bs e. some-is [] bs e (All-nil (λ b. is_within net b ≡ true)) }
    go false = record { bit = all.0.register; flips = All-nil (λ b. is_within net b ≡ true); others = λ bs e. some-is (c.from ∷ []) bs e one }

-- and of another bit each
pub races-apart : (cs : List Crossing) (rng : List ℕ) → AreApart (λ (c : Crossing). c.to) cs → AreApart (λ (r : Race). r.bit) (map race_of_toss (with_words toss rng cs))
races-apart [] rng h = tt
races-apart (c ∷ cs) rng h = (others cs (behind rng) h.0, races-apart cs (behind rng) h.1)
  where
    others : (ds : List Crossing) (g : List ℕ) → AllByRecursion (λ d. c.to ≢ d.to) ds
        → AllByRecursion (λ (r : Race). (race_of_toss (toss (word rng) c)).bit ≢ r.bit) (map race_of_toss (with_words toss g ds))
    others [] g k = tt
    others (d ∷ ds) g k = (λ e. k.0 (sym (race-bit (toss (word rng) c)) ∙ e ∙ race-bit (toss (word g) d)), others ds (behind g) k.1)

-- a race of the list is that of its bit
pub race-at : (rs : List Race) (r : Race) → AreApart (λ (r : Race). r.bit) rs → Contains rs r → race_of rs r.bit ≡ Some r
race-at [] r h i = absurd (nothing_in r i)
race-at (q ∷ rs) r h i = elim (parts q rs r i) [
  | inl e ↦ ap (λ t. cond t (Some q) (race_of rs r.bit)) (subst (λ (x : Race). bit_eq q.bit x.bit ≡ true) e (bit_eq-refl q.bit)) ∙ ap Some e
  | inr j ↦ ap (λ t. cond t (Some q) (race_of rs r.bit)) (apart (bit_eq q.bit r.bit) refl (of-each (λ (p : Race). q.bit ≢ p.bit) rs r h.0 j)) ∙ race-at rs r h.1 j
]
  where
    apart : (t : Bool) → bit_eq q.bit r.bit ≡ t → q.bit ≢ r.bit → bit_eq q.bit r.bit ≡ false
    apart true e ne = absurd (ne (bit_eq-true q.bit r.bit e))
    apart false e ne = e

-- a race of the list is one of these flops'
pub race-from : (cs : List Crossing) (rng : List ℕ) (r : Race) → Contains (map race_of_toss (with_words toss rng cs)) r → (w : ℕ) × (c : Crossing) × Contains cs c × (race_of_toss (toss w c) ≡ r)
race-from [] rng r i = absurd (nothing_in r i)
race-from (c ∷ cs) rng r i = elim (parts (race_of_toss (toss (word rng) c)) (map race_of_toss (with_words toss (behind rng) cs)) r i) [
  | inl e ↦ (word rng, c, here c cs, e)
  | inr j ↦ let p = race-from cs (behind rng) r j in (p.0, p.1, later c cs p.1 p.2, p.3)
]

-- a bit that none of the flops is has no race
pub race-none : (cs : List Crossing) (rng : List ℕ) (x : Bit) → ((c : Crossing) → Contains cs c → c.to ≢ x) → race_of (map race_of_toss (with_words toss rng cs)) x ≡ None
race-none [] rng x h = refl
race-none (c ∷ cs) rng x h =
    ap (λ t. cond t (Some (race_of_toss (toss (word rng) c))) (race_of (map race_of_toss (with_words toss (behind rng) cs)) x)) (apart (bit_eq (race_of_toss (toss (word rng) c)).bit x) refl)
    ∙ race-none cs (behind rng) x (λ d i. h d (later c cs d i))
  where
    apart : (t : Bool) → bit_eq (race_of_toss (toss (word rng) c)).bit x ≡ t → bit_eq (race_of_toss (toss (word rng) c)).bit x ≡ false
    apart true e = absurd (h c (here c cs) (sym (race-bit (toss (word rng) c)) ∙ bit_eq-true (race_of_toss (toss (word rng) c)).bit x e))
    apart false e = e

-- without a fault in any item there is none
pub no-faults : {A : Type 0} (f : A → Option StepFault) (xs : List A) → ((x : A) → Contains xs x → f x ≡ None) → first_fault f xs ≡ None
no-faults f [] h = refl
no-faults f (x ∷ xs) h = ap (λ o. or_else o (first_fault f xs)) (h x (here x xs)) ∙ no-faults f xs (λ y i. h y (later x xs y i))
