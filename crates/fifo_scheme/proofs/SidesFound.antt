-- The sides that Gray registers make, one register after the other.
use Rattle.std.proofs.Common.{rules, Bool, false, not, zero, suc, cond, ◌≡◌, ◌∙◌, sym, ap, subst, refl, inl, inr, ℕ, ◌+◌, ◌<◌}
use Rattle.std.proofs.Common.{◌≤◌, true, List, [], ◌∷◌, ◌++◌, length, get_or, take, Contains}
use Rattle.std.proofs.lemmas.List.{take_all}
use Rattle.std.proofs.lemmas.List.Elements.{Contains-append_left, Contains-push, Contains-push_cases}
use Rattle.cell_graph.specs.declared.net.Net.{Net}
use Rattle.domains.specs.declared.Domains.{Domains}
use Rattle.cdc_model.specs.declared.scheme.GrayReg.{GrayReg}
use Rattle.cdc_model.proofs.Ascending.{here, later, nothing_in, parts}
use Rattle.fifo_terms.specs.Terms.{Term}
use Rattle.fifo_scheme.specs.contracts.index.NamesPartialEq.TheImpl as names
use Rattle.fifo_scheme.specs.declared.index.Names.{Names}
use Rattle.fifo_parts.specs.declared.side.Outline.{Outline}
use Rattle.fifo_parts.specs.declared.side.Side.{Side}
use Rattle.fifo_scheme.specs.Indexed.{AreSides, HasOneShape}
use Rattle.fifo_parts.specs.Sides.{IsSomeSide, MakesSide}
use Rattle.fifo_parts.proofs.Sifted.{next_so_far, so_far_cases, still_so_far}

-- some register of the list has the counter and the Gray register
abbrev pub IsMetIn : List GrayReg → (gray count : ℕ) → Type 0
IsMetIn grays gray count = (g : GrayReg) × Contains grays g × (g.gray ≡ gray) × (g.count ≡ count)

module _ (net : Net) (domains : Domains) (grays : List GrayReg) where
  -- the sides of the first i registers
  pub record AreSidesBelow (i : ℕ) (sides : List Side) : Type 0 where
    pub only : (s : Side) → Contains sides s → IsSomeSide net domains s × Contains grays s.reg
    pub all : (reg : GrayReg) (o : Outline) (ts : List Term) → Contains (take i grays) reg → HasOneShape grays reg → MakesSide net domains reg o ts
        → (s : Side) × Contains sides s × (s.reg ≡ reg)

  pub sides_begin : AreSidesBelow 0 []
  sides_begin = record {
    only = λ s h. absurd (nothing_in s h);
    all = λ reg o ts h one makes. absurd (nothing_in reg h);
  }

  pub sides_end : (i : ℕ) (sides : List Side) → length grays ≤ i → AreSidesBelow i sides → AreSides net domains grays sides
  sides_end i sides l h = record {
    only = h.only;
    all = λ reg o ts there. h.all reg o ts (subst (λ (gs : List GrayReg). Contains gs reg) (sym (take_all i grays l)) there);
  }

  module _ (i : ℕ) (d : GrayReg) (l : i < length grays) (sides : List Side) (h : AreSidesBelow i sides) where
    module _ (in_grays : (g : GrayReg) → Contains (take i grays) g → Contains grays g) where
      -- one with the counter and the Gray register was there before
      pub sides_met : IsMetIn (take i grays) (get_or grays i d).gray (get_or grays i d).count → AreSidesBelow (i + 1) sides
      sides_met (g, at, gray, count) = record {
        only = h.only;
        all = λ reg o ts there one makes. elim (so_far_cases grays i d l reg there) [
          | inl j ↦ h.all reg o ts j one makes
          | inr e ↦
              let same : g ≡ reg = one g (in_grays g at) (count ∙ ap (λ (x : GrayReg). x.count) e) (gray ∙ ap (λ (x : GrayReg). x.gray) e) in
              h.all reg o ts (subst (Contains (take i grays)) same at) one makes
        ];
      }

    pub sides_none : ((o : Outline) (ts : List Term) → MakesSide net domains (get_or grays i d) o ts → ⊥) → AreSidesBelow (i + 1) sides
    sides_none none = record {
      only = h.only;
      all = λ reg o ts there one makes. elim (so_far_cases grays i d l reg there) [
        | inl j ↦ h.all reg o ts j one makes
        | inr e ↦ absurd (none o ts (subst (λ (x : GrayReg). MakesSide net domains x o ts) (sym e) makes))
      ];
    }

    pub sides_more : (s : Side) → IsSomeSide net domains s → s.reg ≡ get_or grays i d → Contains grays (get_or grays i d)
        → AreSidesBelow (i + 1) (sides ++ s ∷ [])
    sides_more s is reg listed = record {
      only = λ r j. elim (Contains-push_cases sides s r j) [
        | inl k ↦ h.only r k
        | inr e ↦ subst (λ (x : Side). IsSomeSide net domains x × Contains grays x.reg) e (is, subst (Contains grays) (sym reg) listed)
      ];
      all = λ other o ts there one makes. elim (so_far_cases grays i d l other there) [
        | inl j ↦ (let k = h.all other o ts j one makes in (k.0, Contains-append_left sides (s ∷ []) k.0 k.1, k.2))
        | inr e ↦ (s, Contains-push sides s, reg ∙ e)
      ];
    }

-- ---- names that were met

same_names : (a b : Names) → names.ghosts.eq a b ≡ true → a ≡ b
same_names a b h = search rules

abbrev pub names_of : GrayReg → Names
names_of g = record { gray = g.gray; count = g.count }

pub met_more : (grays : List GrayReg) (i : ℕ) (d : GrayReg) → i < length grays → (n : Names) (old new : Bool)
    → (old ≡ true → IsMetIn (take i grays) n.gray n.count)
    → new ≡ cond (names.ghosts.eq (names_of (get_or grays i d)) n) true old → new ≡ true → IsMetIn (take (i + 1) grays) n.gray n.count
met_more grays i d l n old new h step is = go (names.ghosts.eq (names_of (get_or grays i d)) n) refl (sym step ∙ is)
  where
    go : (b : Bool) → names.ghosts.eq (names_of (get_or grays i d)) n ≡ b → cond b true old ≡ true → IsMetIn (take (i + 1) grays) n.gray n.count
    go true e k =
        let same = same_names (names_of (get_or grays i d)) n e in
        (get_or grays i d, next_so_far grays i d l, ap (λ (m : Names). m.gray) same, ap (λ (m : Names). m.count) same)
    go false e k = let (g, at, gray, count) = h k in (g, still_so_far grays i d l g at, gray, count)

pub unnot : (b : Bool) → not b ≡ false → b ≡ true
unnot true h = refl
unnot false h = cc

pub in_take : (xs : List GrayReg) (i : ℕ) (x : GrayReg) → Contains (take i xs) x → Contains xs x
in_take xs zero x h = absurd (nothing_in x h)
in_take [] (suc i) x h = absurd (nothing_in x h)
in_take (y ∷ ys) (suc i) x h = elim (parts y (take i ys) x h) [
  | inl e ↦ subst (Contains (y ∷ ys)) e (here y ys)
  | inr j ↦ later y ys x (in_take ys i x j)
]
