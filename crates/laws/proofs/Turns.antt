-- Pair-off a turn at a time: where the account has not both nothing changes, and where it has, pair-off is
-- a step and pair-off of what it leaves. How many steps are allowed does not matter once they are enough.
use mathlib.Core.Path.{◌≡◌, refl, sym, ap, ◌∙◌}
use mathlib.Core.Bool.{true, false}
use mathlib.Core.List.{List}
use Prim.Native.Nat.{ℕ, zero, suc, ◌≤◌}
use native.Mathlib.Omega.{arith}
use Rattle.rules.specs.declared.Entry.{Entry}
use Rattle.rules.specs.Ledger.{smaller_lots, stepped, no_steps, after_step, has_both, paired, pairing}
use Rattle.laws.proofs.Basics.{by_test, Every, each_map}
use Rattle.laws.proofs.Sound.{SoundEntry}
use Rattle.laws.proofs.Lowering.{Apart}
use Rattle.laws.proofs.Pairing.{in_and_out, stepped_apart, stepped_fewer, none_left}

module _ (today i a : ℕ) where
  paired_stop : (n : ℕ) (es : List Entry) → has_both i a es ≡ false → paired n today i a es ≡ no_steps es
  paired_stop zero es h = refl
  paired_stop (suc n) es h = rw h

  paired_step : (n : ℕ) (es : List Entry) → has_both i a es ≡ true →
      paired (suc n) today i a es ≡ after_step (smaller_lots i a es) (paired n today i a (stepped today i a es))
  paired_step n es h = rw h

  -- any number of steps that is enough gives the same
  stop_same : (n k : ℕ) (es : List Entry) → has_both i a es ≡ false → paired n today i a es ≡ paired k today i a es
  stop_same n k es h = paired_stop n es h ∙ sym (paired_stop k es h)

  enough : (n k : ℕ) (es : List Entry) → Every Apart es → in_and_out i a es ≤ n → in_and_out i a es ≤ k →
      paired n today i a es ≡ paired k today i a es
  enough zero k es ps hn hk = stop_same zero k es (none_left i a es hn)
  enough (suc n) zero es ps hn hk = stop_same (suc n) zero es (none_left i a es hk)
  enough (suc n) (suc k) es ps hn hk =
      by_test (has_both i a es)
      (λ e.
      let f = stepped_fewer today i a es ps e in
      paired_step n es e
      ∙ ap (after_step (smaller_lots i a es)) (enough n k (stepped today i a es) (stepped_apart today i a es ps) (omega arith) (omega arith))
      ∙ sym (paired_step k es e))
      (stop_same (suc n) (suc k) es)

  -- the account has not both
  pub pairing_stop : (es : List Entry) → has_both i a es ≡ false → pairing today i a es ≡ no_steps es
  unfolding pairing
  pairing_stop es h = paired_stop (in_and_out i a es) es h

  -- it has
  pub pairing_turn : (es : List Entry) → Every SoundEntry es → has_both i a es ≡ true →
      pairing today i a es ≡ after_step (smaller_lots i a es) (pairing today i a (stepped today i a es))
  unfolding pairing
  pairing_turn es ss h =
      let ps = each_map SoundEntry Apart (λ e s. s.apart) es ss in
      let f = stepped_fewer today i a es ps h in
      let es₁ = stepped today i a es in
      enough (in_and_out i a es) (suc (in_and_out i a es)) es ps (omega arith) (omega arith)
      ∙ paired_step (in_and_out i a es) es h
      ∙ ap (after_step (smaller_lots i a es)) (enough (in_and_out i a es) (in_and_out i a es₁) es₁ (stepped_apart today i a es ps) (omega arith) (omega arith))
