-- The order of rows by its test: a is at most b where `lt_z b a` is false. Assumes nothing.
use Rattle.std.proofs.Common.{◌≡◌, ℕ, true, false, ℤ, pos, negsuc, sym, refl, arith, ltb-false, ltb-true, le-ltb, lt-ltb}
use lib.Signed.{lt_z}

pub no {ℓ} : {A : Type ℓ} → false ≡ true → A
no h = let z : ◌≡◌ {A = ℕ} 0 1 = cc in absurd (omega arith)

pub lt_le : (p x y : ℤ) → lt_z p x ≡ true → lt_z y x ≡ false → lt_z p y ≡ true
lt_le (pos p) (pos x) (pos y) h k = lt-ltb p y (omega (arith, ltb-true p x h, ltb-false y x k))
lt_le (pos p) (pos x) (negsuc y) h k = no (sym k)
lt_le (pos p) (negsuc x) y h k = no h
lt_le (negsuc p) (pos x) (pos y) h k = refl
lt_le (negsuc p) (pos x) (negsuc y) h k = no (sym k)
lt_le (negsuc p) (negsuc x) (pos y) h k = refl
lt_le (negsuc p) (negsuc x) (negsuc y) h k = lt-ltb y p (omega (arith, ltb-true x p h, ltb-false x y k))

pub le_lt : (p x y : ℤ) → lt_z x p ≡ false → lt_z x y ≡ true → lt_z p y ≡ true
le_lt (pos p) (pos x) (pos y) h k = lt-ltb p y (omega (arith, ltb-false x p h, ltb-true x y k))
le_lt (pos p) (pos x) (negsuc y) h k = no k
le_lt (pos p) (negsuc x) y h k = no (sym h)
le_lt (negsuc p) (pos x) (pos y) h k = refl
le_lt (negsuc p) (pos x) (negsuc y) h k = no k
le_lt (negsuc p) (negsuc x) (pos y) h k = refl
le_lt (negsuc p) (negsuc x) (negsuc y) h k = lt-ltb y p (omega (arith, ltb-false p x h, ltb-true y x k))

pub le_trans : (a b c : ℤ) → lt_z b a ≡ false → lt_z c b ≡ false → lt_z c a ≡ false
le_trans (pos a) (pos b) (pos c) h k = le-ltb c a (omega (arith, ltb-false b a h, ltb-false c b k))
le_trans (pos a) (pos b) (negsuc c) h k = no (sym k)
le_trans (pos a) (negsuc b) c h k = no (sym h)
le_trans (negsuc a) (pos b) (pos c) h k = refl
le_trans (negsuc a) (pos b) (negsuc c) h k = no (sym k)
le_trans (negsuc a) (negsuc b) (pos c) h k = refl
le_trans (negsuc a) (negsuc b) (negsuc c) h k = le-ltb a c (omega (arith, ltb-false a b h, ltb-false b c k))

pub lt_not : (a b : ℤ) → lt_z a b ≡ true → lt_z b a ≡ false
lt_not (pos a) (pos b) h = le-ltb b a (omega (arith, ltb-true a b h))
lt_not (pos a) (negsuc b) h = no h
lt_not (negsuc a) (pos b) h = refl
lt_not (negsuc a) (negsuc b) h = le-ltb a b (omega (arith, ltb-true b a h))

pub lt_not_self : (a : ℤ) → lt_z a a ≡ false
lt_not_self (pos a) = le-ltb a a (omega arith)
lt_not_self (negsuc a) = le-ltb a a (omega arith)
