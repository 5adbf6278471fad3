-- A further signal, and one that is declared again, in the tables and in the definition's design.
use Rattle.std.proofs.Common.{◌≡◌, ℕ, zero, suc, Bool, true, false, List, [], ◌∷◌, ◌++◌, length, map, Option, Some, None, refl, sym, ap, subst, ◌∙◌, arith, rules}
use Rattle.std.specs.Prelude.{slice_get, slice_set, option_and_then}
use Rattle.std.specs.Option.{option_map_or}
use Rattle.std.proofs.lemmas.List.{map-append, length-map}
use Rattle.cdc_base.specs.declared.signal.ResetPin.{ResetPin}
use Rattle.cdc_base.specs.declared.signal.Signal.{Signal}
use Rattle.cell_graph.specs.Tree.{bit_at}
use denote.Enum.Bare.{sameb}
use Rattle.verilog_ast.specs.contracts.DeclKind.{the_type}
use Rattle.verilog_ast.specs.declared.DeclKind.{DeclKind}
use Rattle.verilog_ast.specs.declared.DeclKind.TheVariants as k
use Rattle.flat_unfolding.specs.Names as n
use Rattle.flat_unfolding.specs.Names.{reset_at}
use Rattle.flat_unfolding.specs.Declarations.{direction_of, is_inner, is_reg_kind, declared_again}
use Rattle.flat_unfolding.specs.Design as u
use Rattle.flat_unfolding.specs.Design.{change_entry}
use Rattle.flat_names.specs.declared.design.Entry.{Entry}
use Rattle.flat_names.specs.declared.design.Design.{Design}
use Rattle.flat_names.specs.Looks.{Seen, seen, shown}
use Rattle.flat_names.specs.Designs.{signal_of, IsReset, reset_of, ShowsDesign}
use Rattle.flat_names.proofs.Options.{none-some, some-same}

-- ---- lists side by side

-- there are as many signals as entries
pub signals-counted : (pins : List ResetPin) (d : Design) (e : u.Design) → ShowsDesign pins d e → length d.signals.items ≡ length e.entries
signals-counted pins d e h = ap length h.signals ∙ length-map e.entries signal_of

one-more : {A B C : Type 0} (f : A → C) (g : B → C) (xs : List A) (ys : List B) (x : A) (y : B) → map f xs ≡ map g ys → f x ≡ g y → map f (xs ++ (x ∷ [])) ≡ map g (ys ++ (y ∷ []))
one-more f g xs ys x y e d = map-append f xs (x ∷ []) ∙ ap (λ zs. zs ++ (f x ∷ [])) e ∙ ap (λ z. map g ys ++ (z ∷ [])) d ∙ sym (map-append g ys (y ∷ []))

-- a last one that tells nothing changes nothing of what a list tells at its places
at-more : {A C : Type 0} (f : Option A → C) (xs : List A) (x : A) → f (Some x) ≡ f None → (s : ℕ) → f (slice_get (xs ++ (x ∷ [])) s) ≡ f (slice_get xs s)
at-more f [] x h zero = h
at-more f [] x h (suc s) = refl
at-more f (y ∷ xs) x h zero = refl
at-more f (y ∷ xs) x h (suc s) = at-more f xs x h s

-- ---- one signal more

-- an entry that no rule but its declaration made
pub record IsNew (x : Entry) (y : n.Entry) : Type 0 where
  pub seen : seen x ≡ shown y
  pub may_repeat : x.is_open ≡ y.is_open
  pub reset : x.reset ≡ None
  pub start : x.start ≡ None
  pub known : x.reset_known ≡ 0
  pub value : x.reset_start ≡ 0
  pub no_reset : y.reset ≡ None

pub added-shows : (pins : List ResetPin) (d d' : Design) (e : u.Design) (x : Entry) (z : Signal) (y : n.Entry) → ShowsDesign pins d e
    → d' ≡ record d { signals = d'.signals; entries = d'.entries } → d'.signals.items ≡ d.signals.items ++ (z ∷ []) → d'.entries.items ≡ d.entries.items ++ (x ∷ [])
    → z ≡ signal_of y → IsNew x y → ShowsDesign pins d' (record e { entries = e.entries ++ (y ∷ []) })
added-shows pins d d' e x z y h same zs xs is new = subst (λ (c : Design). ShowsDesign pins c (record e { entries = e.entries ++ (y ∷ []) })) (sym same) record {
  entries = ap (map seen) xs ∙ one-more seen shown d.entries.items e.entries x y h.entries new.seen;
  may_repeat = ap (map (λ (a : Entry). a.is_open)) xs ∙ one-more (λ (a : Entry). a.is_open) (λ (a : n.Entry). a.is_open) d.entries.items e.entries x y h.may_repeat new.may_repeat;
  signals = zs ∙ ap (λ a. d.signals.items ++ (a ∷ [])) is ∙ ap (λ zs. zs ++ (signal_of y ∷ [])) h.signals ∙ sym (map-append signal_of e.entries (y ∷ []));
  resets = λ s.
      subst (λ o. IsReset pins o (reset_at (e.entries ++ (y ∷ [])) s)) (sym (at-new (option_and_then (λ (a : Entry). a.reset)) new.reset s))
      (subst (IsReset pins (reset_of d.entries.items s)) (sym (at-more (option_and_then (λ (a : n.Entry). a.reset)) e.entries y new.no_reset s)) (h.resets s));
  assigns = h.assigns;
  combs = h.combs;
  clocked = h.clocked;
  declared = h.declared;
  process_resets = h.process_resets;
  late = h.late;
  outputs = h.outputs;
  starts = λ s. at-new (option_and_then (λ (a : Entry). a.start)) new.start s ∙ h.starts s;
  givens = λ s. record {
    known = λ i l. ap (λ k. bit_at k i) (at-new (λ o. option_map_or (λ (a : Entry). a.reset_known) o 0) new.known s) ∙ (h.givens s).known i l;
    value = λ i l. ap (λ k. bit_at k i) (at-new (λ o. option_map_or (λ (a : Entry). a.reset_start) o 0) new.value s) ∙ (h.givens s).value i l;
  };
  sizes = record { assigns = h.sizes.assigns; combs = h.sizes.combs; clocked = h.sizes.clocked };
}
  where
    -- what the entries tell of a signal
    at-new : {C : Type 0} (f : Option Entry → C) → f (Some x) ≡ f None → (s : ℕ) → f (slice_get d'.entries.items s) ≡ f (slice_get d.entries.items s)
    at-new f e s = ap (λ es. f (slice_get es s)) xs ∙ at-more f d.entries.items x e s

-- ---- a signal that is declared again

abbrev pub entry_again : DeclKind → Entry → Entry
entry_again kind x = record x { is_open = false; is_reg = is_reg_kind kind }

map-changed : {C : Type 0} (g : n.Entry → C) (f : n.Entry → n.Entry) → ((y : n.Entry) → g (f y) ≡ g y) → (s : ℕ) (ys : List n.Entry) → map g (change_entry f s ys) ≡ map g ys
map-changed g f h s [] = refl
map-changed g f h zero (y ∷ ys) = ap (λ c. c ∷ map g ys) (h y)
map-changed g f h (suc s) (y ∷ ys) = ap (λ cs. g y ∷ cs) (map-changed g f h s ys)

head-same : {C : Type 0} (a b : C) (cs ds : List C) → a ∷ cs ≡ b ∷ ds → a ≡ b
head-same a b cs ds e = search (rules, e)

tail-same : {C : Type 0} (a b : C) (cs ds : List C) → a ∷ cs ≡ b ∷ ds → cs ≡ ds
tail-same a b cs ds e = search (rules, e)

-- both lists change at one place
map-set : {C : Type 0} (f : Entry → C) (g : n.Entry → C) (c : n.Entry → n.Entry) (xs : List Entry) (ys : List n.Entry) (s : ℕ) (x z : Entry) → map f xs ≡ map g ys → slice_get xs s ≡ Some x
    → ((y : n.Entry) → f x ≡ g y → f z ≡ g (c y)) → map f (slice_set xs s z) ≡ map g (change_entry c s ys)
map-set f g c [] ys s x z e k h = none-some x k
map-set f g c (w ∷ xs) [] s x z e k h = absurd (let l : length (map f (w ∷ xs)) ≡ length (map g []) = ap length e in omega (arith, l))
map-set f g c (w ∷ xs) (y ∷ ys) zero x z e k h =
    let i = some-same w x k in
    ap (λ a. a ∷ map f xs) (h y (ap f (sym i) ∙ head-same (f w) (g y) (map f xs) (map g ys) e)) ∙ ap (λ cs. g (c y) ∷ cs) (tail-same (f w) (g y) (map f xs) (map g ys) e)
map-set f g c (w ∷ xs) (y ∷ ys) (suc s) x z e k h = ap (λ a. a ∷ map f (slice_set xs s z)) (head-same (f w) (g y) (map f xs) (map g ys) e) ∙ ap (λ cs. g y ∷ cs) (map-set f g c xs ys s x z (tail-same (f w) (g y) (map f xs) (map g ys) e) k h)

-- a change that leaves what an entry tells
at-set : {C : Type 0} (f : Option Entry → C) (xs : List Entry) (s : ℕ) (x z : Entry) → slice_get xs s ≡ Some x → f (Some z) ≡ f (Some x) → (t : ℕ) → f (slice_get (slice_set xs s z) t) ≡ f (slice_get xs t)
at-set f [] s x z k h t = none-some x k
at-set f (w ∷ xs) zero x z k h zero = h ∙ ap f (sym k)
at-set f (w ∷ xs) zero x z k h (suc t) = refl
at-set f (w ∷ xs) (suc s) x z k h zero = refl
at-set f (w ∷ xs) (suc s) x z k h (suc t) = at-set f xs s x z k h t

reset-changed : (f : n.Entry → n.Entry) → ((y : n.Entry) → (f y).reset ≡ y.reset) → (s : ℕ) (ys : List n.Entry) (t : ℕ) → reset_at (change_entry f s ys) t ≡ reset_at ys t
reset-changed f h s [] t = refl
reset-changed f h zero (y ∷ ys) zero = h y
reset-changed f h zero (y ∷ ys) (suc t) = refl
reset-changed f h (suc s) (y ∷ ys) zero = refl
reset-changed f h (suc s) (y ∷ ys) (suc t) = reset-changed f h s ys t

-- no entry is there to be changed
none-changed : (c : n.Entry → n.Entry) (xs : List Entry) (ys : List n.Entry) (s : ℕ) → map seen xs ≡ map shown ys → slice_get xs s ≡ None → change_entry c s ys ≡ ys
none-changed c [] [] s e k = refl
none-changed c [] (y ∷ ys) s e k = absurd (let l : length (map seen []) ≡ length (map shown (y ∷ ys)) = ap length e in omega (arith, l))
none-changed c (w ∷ xs) [] s e k = refl
none-changed c (w ∷ xs) (y ∷ ys) zero e k = none-some w (sym k)
none-changed c (w ∷ xs) (y ∷ ys) (suc s) e k = ap (λ zs. y ∷ zs) (none-changed c xs ys s (tail-same (seen w) (shown y) (map seen xs) (map shown ys) e) k)

pub none-again : (pins : List ResetPin) (d : Design) (e : u.Design) (c : n.Entry → n.Entry) (s : ℕ) → ShowsDesign pins d e → slice_get d.entries.items s ≡ None → ShowsDesign pins d (record e { entries = change_entry c s e.entries })
none-again pins d e c s h k = subst (λ es. ShowsDesign pins d (record e { entries = es })) (sym (none-changed c d.entries.items e.entries s h.entries k)) h

-- a wire or a register that is declared again is a register where it is declared as one
pub reg-again : (kind : DeclKind) (b : Bool) → is_inner (direction_of kind) ≡ true → b ≡ sameb the_type kind k.Reg → b ≡ is_reg_kind kind
reg-again k.Wire b i e = e
reg-again k.Reg b i e = e
reg-again k.Input b i e = absurd (search (rules, i))
reg-again k.Output b i e = absurd (search (rules, i))
reg-again k.OutputReg b i e = absurd (search (rules, i))

pub again-shows : (pins : List ResetPin) (d d' : Design) (e : u.Design) (kind : DeclKind) (s : ℕ) (x z : Entry) → ShowsDesign pins d e → slice_get d.entries.items s ≡ Some x
    → z ≡ entry_again kind x → d' ≡ record d { entries = d'.entries } → d'.entries.items ≡ slice_set d.entries.items s z
    → ShowsDesign pins d' (record e { entries = change_entry (declared_again kind) s e.entries })
again-shows pins d d' e kind s x z h k is same xs =
    let f = declared_again kind in
    subst (λ (c : Design). ShowsDesign pins c (record e { entries = change_entry f s e.entries })) (sym same) record {
      entries = ap (map seen) xs ∙ map-set seen shown f d.entries.items e.entries s x z h.entries k (λ y a. ap seen is ∙ ap (λ (q : Seen). record q { is_reg = is_reg_kind kind }) a);
      may_repeat = ap (map (λ (a : Entry). a.is_open)) xs ∙ map-set (λ (a : Entry). a.is_open) (λ (a : n.Entry). a.is_open) f d.entries.items e.entries s x z h.may_repeat k (λ y a. ap (λ (b : Entry). b.is_open) is);
      signals = h.signals ∙ sym (map-changed signal_of f (λ y. refl) s e.entries);
      resets = λ t.
          subst (λ o. IsReset pins o (reset_at (change_entry f s e.entries) t)) (sym (at-again (option_and_then (λ (a : Entry). a.reset)) (ap (λ (b : Entry). b.reset) is) t))
          (subst (IsReset pins (reset_of d.entries.items t)) (sym (reset-changed f (λ y. refl) s e.entries t)) (h.resets t));
      assigns = h.assigns;
      combs = h.combs;
      clocked = h.clocked;
      declared = h.declared;
      process_resets = h.process_resets;
      late = h.late;
      outputs = h.outputs;
      starts = λ t. at-again (option_and_then (λ (a : Entry). a.start)) (ap (λ (b : Entry). b.start) is) t ∙ h.starts t;
      givens = λ t. record {
        known = λ i l. ap (λ k. bit_at k i) (at-again (λ o. option_map_or (λ (a : Entry). a.reset_known) o 0) (ap (λ (b : Entry). b.reset_known) is) t) ∙ (h.givens t).known i l;
        value = λ i l. ap (λ k. bit_at k i) (at-again (λ o. option_map_or (λ (a : Entry). a.reset_start) o 0) (ap (λ (b : Entry). b.reset_start) is) t) ∙ (h.givens t).value i l;
      };
      sizes = record { assigns = h.sizes.assigns; combs = h.sizes.combs; clocked = h.sizes.clocked };
    }
  where
    at-again : {C : Type 0} (f : Option Entry → C) → f (Some z) ≡ f (Some x) → (t : ℕ) → f (slice_get d'.entries.items t) ≡ f (slice_get d.entries.items t)
    at-again f a t = ap (λ es. f (slice_get es t)) xs ∙ at-set f d.entries.items s x z k a t
