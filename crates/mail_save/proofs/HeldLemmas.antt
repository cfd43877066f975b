-- What is due for a delivery, by event.
use Rattle.mail_save.proofs.Common.{◌≡◌, ◌≤◌, ◌+◌, ◌-◌, ◌==◌, ℕ, Bool, true, false, cond, inl, inr, ◌∙◌, ap, subst, arith, cases_eq, cond-false, cond-true, eq-eqb, ne_eqb, MapUid, Refusal, bit, MapMeaning, Moves, amounts_in, due_at, number_beside, StoreValue, one_due, StoresNone, SavedAt}
use Rattle.std.specs.Prelude.{◌||◌}
use Rattle.store_core.specs.Dues.{Amounts}

-- nothing is held before or behind it
pub nothing_moves : {D : Type 0} → (mine mine_now : Amounts) (old new : StoreValue D) → ((uid : ℕ) → mine.due uid ≡ mine_now.due uid) → ((uid : ℕ) → due_at uid new ≡ due_at uid old) → Moves mine mine_now (amounts_in old) (amounts_in new)
nothing_moves mine mine_now old new held same = record { due = λ uid. let a = held uid in let b = same uid in omega (arith, a, b) }

-- one is held more, or less
pub one_more : {D : Type 0} → (held : MapUid) (mine mine_now : Amounts) (old new : StoreValue D) → ((uid : ℕ) → mine.due uid ≡ 0) → ((uid : ℕ) → mine_now.due uid ≡ one_due held.0 uid) → ((uid : ℕ) → due_at uid new ≡ due_at uid old + one_due held.0 uid) → Moves mine mine_now (amounts_in old) (amounts_in new)
one_more held mine mine_now old new none one more = record { due = λ uid. let a = none uid in let b = one uid in let c = more uid in omega (arith, a, b, c) }

covers_one : (held uid : ℕ) (due : ℕ → ℕ) → 1 ≤ due held → one_due held uid ≤ due uid
covers_one held uid due some = elim (cases_eq held uid) [
  | inl same ↦
      let one : one_due held uid ≡ 1 = cond-true (held == uid) 1 0 (eq-eqb held uid same) in
      let there : 1 ≤ due uid = subst (λ (n : ℕ). 1 ≤ due n) same some in
      omega (arith, one, there)
  | inr apart ↦ let none : one_due held uid ≡ 0 = cond-false (held == uid) 1 0 (ne_eqb held uid apart) in omega (arith, none)
]

less_one : (b : Bool) (old new : ℕ) → new ≡ old - bit (b || false) → cond b 1 0 ≤ old → new + cond b 1 0 ≡ old
less_one true old new e l = let f : new ≡ old - 1 = e in let m : 1 ≤ old = l in omega (arith, f, m)
less_one false old new e l = let f : new ≡ old - 0 = e in omega (arith, f)

pub one_less : {D : Type 0} → (held : MapUid) (mine mine_now : Amounts) (old new : StoreValue D) → ((uid : ℕ) → mine.due uid ≡ one_due held.0 uid) → ((uid : ℕ) → mine_now.due uid ≡ 0) → 1 ≤ due_at held.0 old → ((uid : ℕ) → due_at uid new ≡ due_at uid old - bit ((held.0 == uid) || false)) → Moves mine mine_now (amounts_in old) (amounts_in new)
one_less held mine mine_now old new one none some less = record {
  due = λ uid.
      let a = one uid in
      let b = none uid in
      let c = less_one (held.0 == uid) (due_at uid old) (due_at uid new) (less uid) (covers_one held.0 uid (λ n. due_at n old) some) in
      omega (arith, a, b, c);
}

-- ---- where nothing was stored

due_as : {D : Type 0} → (old new : StoreValue D) (uid : ℕ) → new.map ≡ old.map → new.dues ≡ old.dues → due_at uid new ≡ due_at uid old
due_as old new uid map dues = ap (λ (m : MapMeaning). number_beside uid m.records new.dues) map ∙ ap (number_beside uid old.map.records) dues

pub unstored_due : {D : Type 0} → (at : SavedAt) (why : Refusal) (old new : StoreValue D) → StoresNone at why old new → (uid : ℕ) → due_at uid new ≡ due_at uid old
unstored_due at why old new (inl k) uid = ap (λ v. due_at uid v) k.1.same
unstored_due at why old new (inr k) uid = ap (λ v. due_at uid v) k.1.same
