-- The signals, one by one.
use Rattle.std.proofs.Common.{◌≡◌, ℕ, zero, suc, Some, subst, slice_get}
use Rattle.cdc_base.specs.declared.signal.Signal.{Signal}
use Rattle.cdc_base.specs.declared.signal.SigKind.TheVariants.{Input, Register, Wire}
use Rattle.worked_audit.specs.Design.{signal, signals}

pub same_item : {A : Type 0} (x y : A) → Some x ≡ Some y → x ≡ y
same_item x y e = cc

-- what holds of each signal holds of the one at a place
pub at_signal : (P : ℕ → Signal → Type 0) → P 0 (signal "ca" 1 Input) → P 1 (signal "cb" 1 Input) → P 2 (signal "d" 1 Input) → P 3 (signal "q" 1 Wire)
    → P 4 (signal "a" 2 Register) → P 5 (signal "s1" 2 Register) → P 6 (signal "s2" 2 Register)
    → (sig : ℕ) (s : Signal) → slice_get signals sig ≡ Some s → P sig s
at_signal P ca cb d q a s1 s2 zero s e = subst (P 0) (same_item (signal "ca" 1 Input) s e) ca
at_signal P ca cb d q a s1 s2 (suc zero) s e = subst (P 1) (same_item (signal "cb" 1 Input) s e) cb
at_signal P ca cb d q a s1 s2 (suc (suc zero)) s e = subst (P 2) (same_item (signal "d" 1 Input) s e) d
at_signal P ca cb d q a s1 s2 (suc (suc (suc zero))) s e = subst (P 3) (same_item (signal "q" 1 Wire) s e) q
at_signal P ca cb d q a s1 s2 (suc (suc (suc (suc zero)))) s e = subst (P 4) (same_item (signal "a" 2 Register) s e) a
at_signal P ca cb d q a s1 s2 (suc (suc (suc (suc (suc zero))))) s e = subst (P 5) (same_item (signal "s1" 2 Register) s e) s1
at_signal P ca cb d q a s1 s2 (suc (suc (suc (suc (suc (suc zero)))))) s e = subst (P 6) (same_item (signal "s2" 2 Register) s e) s2
at_signal P ca cb d q a s1 s2 (suc (suc (suc (suc (suc (suc (suc sig))))))) s e = cc
