-- What the register takes is the code of its counters' words; or it never changes, and neither do they.
use Rattle.std.proofs.Common.{sym, subst, refl, ℕ, ◌≤◌}
use Rattle.std.specs.HashMap as hash
use Rattle.cdc_model.specs.GrayShape.{HasShape}
use Rattle.cdc_model.proofs.Justify.{slice_in}
use Rattle.gray_pointer.specs.contracts.candidates.KeyPartialEq.TheImpl as equality
use Rattle.gray_pointer.specs.Counters.{IsKey, IsAmong}
use Rattle.gray_pointer.specs.declared.candidates.Key.{Key}
use Rattle.gray_pointer.specs.Taken.{IsChange}
use Rattle.gray_pointer.specs.Words.{word_of, HasWord}
use Rattle.gray_pointer.proofs.Changes.{changed_code}
use Rattle.gray_pointer.proofs.Idle.{idle_joint, counter_idle, same_key}
use Rattle.gray_pointer.proofs.candidates.Candidates.places.Goals as goal

pub returns-in_ok-places-in-Some : goal.returns-in_ok-places-in-Some
returns-in_ok-places-in-Some c = λ plain all up is idle place count s at (fits, shape).
    let g = c.args.net.now.graph in
    let rs = c.args.registers.now in
    let gray = c.args.gray.now in
    let wide = sym fits.2 in
    let change = subst (IsChange g gray) c.in-Some.is (c.in_ok-word.ensures plain is) in
    let two = (all count (slice_in rs place count at)).1 in
    c.in_ok-places-in-Some.ensures plain up count.width two (subst (HasWord g c.in-Some.word) wide change.1) place count at
    (changed_code g plain count.sig gray.sig count.width two gray refl wide s (word_of g count.next count.width) shape c.in-Some.word change)

pub returns-in_ok-places-in-None : goal.returns-in_ok-places-in-None
returns-in_ok-places-in-None c = λ plain all up is idle place count s at (fits, shape).
    let g = c.args.net.now.graph in
    let rs = c.args.registers.now in
    let gray = c.args.gray.now in
    let wide = fits.2 in
    let key = c.key_of-key.result in
    let known = all count (slice_in rs place count at) in
    let two = subst (λ (w : ℕ). 2 ≤ w) wide known.1 in
    let never = subst (IsChange g gray) c.in-None.is (c.in_ok-word.ensures plain is) in
    let here = subst (λ (n : ℕ). IsKey g gray n key) (c.decoded.ensures count.start known.2 fits.3) (c.key_of-key.ensures plain is) in
    let joint = idle_joint g plain count.sig gray two never s (word_of g count.next gray.width)
    (subst (λ (w : ℕ). HasShape s count.sig gray.sig w (word_of g count.next w) (word_of g gray.next w)) wide shape) in
    let there = idle place count at (counter_idle g plain count.sig gray two never count refl wide joint) in
    let same = same_key g plain count.sig gray two never count wide fits.1 joint count.start there.0 key there.1 here in
    c.in_ok-places-in-None.ensures place (subst (λ (k : Key). IsAmong (hash.get equality.ghosts.eq c.args.self.now.idle k) place) same there.2)
