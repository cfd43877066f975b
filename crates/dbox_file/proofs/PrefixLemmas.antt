-- One spelling behind another.
use Rattle.std.specs.Prelude.{◌≡◌, ℕ, List, [], ◌∷◌, ◌++◌, length, refl, ◌⊎◌}
use Rattle.std.proofs.Common.{sym, ◌∙◌, ap, subst, inl, inr, append_assoc, append-nil}
use Rattle.model_storage.specs.Grammars.{Grammar, Begins, IsFrontOf, IsPrefixFree}
use Rattle.model_octets.proofs.PiecesLemmas.{split_same}
use Rattle.dbox_file.specs.declared.reading.Flaw.{Flaw}
use Rattle.dbox_file.specs.declared.reading.Flaw.TheVariants.{Short, Bad}
use Rattle.dbox_file.specs.Reading.{StandsFirst, Flawed}

-- of two fronts of one text, one is the front of the other
pub two_fronts : (a b x y : List ℕ) → a ++ x ≡ b ++ y → ((c : List ℕ) × (a ≡ b ++ c)) ⊎ ((c : List ℕ) × (b ≡ a ++ c))
two_fronts [] b x y e = inr (b, refl)
two_fronts (a ∷ us) [] x y e = inl (a ∷ us, refl)
two_fronts (a ∷ us) (b ∷ bs) x y e =
    let h : a ≡ b = cc in
    let t : us ++ x ≡ bs ++ y = cc in
    elim (two_fronts us bs x y t) [
      | inl p ↦ inl (p.0, cc (p.1, h))
      | inr p ↦ inr (p.0, cc (p.1, h))
    ]

-- a spelling of the first, and behind it one of the second, which may depend on the first's value
abbrev pub Then : {X Y : Type 0} → Grammar X → (X → Grammar Y) → List ℕ → Y → Type 0
Then {X = X} G K octets y = (a : List ℕ) × (b : List ℕ) × (x : X) × (octets ≡ a ++ b) × G a x × K x b y

-- each spelling of the first can be completed
abbrev pub CanFollow : {X Y : Type 0} → Grammar X → (X → Grammar Y) → Type 0
CanFollow {X = X} {Y = Y} G K = (a : List ℕ) (x : X) → G a x → (b : List ℕ) × (y : Y) × K x b y

then_begins : {X Y : Type 0} → (G : Grammar X) (K : X → Grammar Y) (t : List ℕ) → Begins (Then G K) t → Begins G t
then_begins G K t q = let p = q.4 in (p.0, p.1 ++ q.1, p.2, q.3 ∙ ap (λ (s : List ℕ). s ++ q.1) p.3 ∙ append_assoc p.0 p.1 q.1, p.4)

then_front : {X Y : Type 0} → (G : Grammar X) (K : X → Grammar Y) (t : List ℕ) → CanFollow G K → IsFrontOf G t → IsFrontOf (Then G K) t
then_front G K t can q =
    let k = can (t ++ q.0) q.1 q.2 in
    (q.0 ++ k.0, k.1, (t ++ q.0, k.0, q.1, sym (append_assoc t q.0 k.0), q.2, k.2))

then_front_back : {X Y : Type 0} → (G : Grammar X) (K : X → Grammar Y) (t : List ℕ) → IsFrontOf (Then G K) t → Begins G t ⊎ IsFrontOf G t
then_front_back G K t q =
    let p = q.2 in
    elim (two_fronts t p.0 q.0 p.1 p.3) [
      | inl f ↦ inl (p.0, f.0, p.2, f.1, p.4)
      | inr f ↦ inr (f.0, p.2, subst (λ (o : List ℕ). G o p.2) f.1 p.4)
    ]

-- a flaw of the first is one of both
pub flawed_first : {X Y : Type 0} → (G : Grammar X) (K : X → Grammar Y) (t : List ℕ) (e : Flaw) → CanFollow G K → Flawed G t e → Flawed (Then G K) t e
flawed_first G K t Short can f = (λ q. f.0 (then_begins G K t q), then_front G K t can f.1)
flawed_first G K t Bad can f = (λ q. f.0 (then_begins G K t q), λ q. elim (then_front_back G K t q) [ inl b ↦ f.0 b | inr b ↦ f.1 b ])

same_behind : {X Y : Type 0} → (G : Grammar X) (K : X → Grammar Y) → IsPrefixFree G → (s a r b x : List ℕ) (m n : X) (y : Y) → G s m → G a n → s ++ r ≡ a ++ (b ++ x) → K n b y → (r ≡ b ++ x) × K m b y
same_behind G K free s a r b x m n y gs ga e k =
    let h = free s a r (b ++ x) m n gs ga e in
    ((split_same s a r (b ++ x) (ap length h.0) e).1, subst (λ (v : _). K v b y) (sym h.1) k)

behind_begins : {X Y : Type 0} → (G : Grammar X) (K : X → Grammar Y) → IsPrefixFree G → (t r : List ℕ) (x : X) → StandsFirst G t x r → Begins (Then G K) t → Begins (K x) r
behind_begins G K free t r x f q =
    let p = q.4 in
    let e : f.0 ++ r ≡ p.0 ++ (p.1 ++ q.1) = sym f.1 ∙ q.3 ∙ ap (λ (s : List ℕ). s ++ q.1) p.3 ∙ append_assoc p.0 p.1 q.1 in
    let k = same_behind G K free f.0 p.0 r p.1 q.1 x p.2 q.2 f.2 p.4 e p.5 in
    (p.1, q.1, q.2, k.0, k.1)

behind_front : {X Y : Type 0} → (G : Grammar X) (K : X → Grammar Y) (t r : List ℕ) (x : X) → StandsFirst G t x r → IsFrontOf (K x) r → IsFrontOf (Then G K) t
behind_front G K t r x f q = (q.0, q.1, (f.0, r ++ q.0, x, ap (λ (s : List ℕ). s ++ q.0) f.1 ∙ append_assoc f.0 r q.0, f.2, q.2))

behind_front_back : {X Y : Type 0} → (G : Grammar X) (K : X → Grammar Y) → IsPrefixFree G → (t r : List ℕ) (x : X) → StandsFirst G t x r → IsFrontOf (Then G K) t → IsFrontOf (K x) r
behind_front_back G K free t r x f q =
    let p = q.2 in
    let e : f.0 ++ (r ++ q.0) ≡ p.0 ++ (p.1 ++ []) = sym (append_assoc f.0 r q.0) ∙ ap (λ (s : List ℕ). s ++ q.0) (sym f.1) ∙ p.3 ∙ ap (λ (s : List ℕ). p.0 ++ s) (sym (append-nil p.1)) in
    let k = same_behind G K free f.0 p.0 (r ++ q.0) p.1 [] x p.2 q.1 f.2 p.4 e p.5 in
    (q.0, q.1, subst (λ (o : List ℕ). K x o q.1) (sym (k.0 ∙ append-nil p.1)) k.1)

-- behind the first a flaw of the second is one of both
pub flawed_behind : {X Y : Type 0} → (G : Grammar X) (K : X → Grammar Y) → IsPrefixFree G → (t r : List ℕ) (x : X) (e : Flaw) → StandsFirst G t x r → Flawed (K x) r e → Flawed (Then G K) t e
flawed_behind G K free t r x Short f g = (λ q. g.0 (behind_begins G K free t r x f q), behind_front G K t r x f g.1)
flawed_behind G K free t r x Bad f g = (λ q. g.0 (behind_begins G K free t r x f q), λ q. g.1 (behind_front_back G K free t r x f q))

-- what is found of the second behind the first is found of both
pub found_behind : {X Y : Type 0} → (G : Grammar X) (K : X → Grammar Y) (t r s : List ℕ) (x : X) (y : Y) → StandsFirst G t x r → StandsFirst (K x) r y s → StandsFirst (Then G K) t y s
found_behind G K t r s x y f g = (f.0 ++ g.0, f.1 ∙ ap (λ (o : List ℕ). f.0 ++ o) g.1 ∙ sym (append_assoc f.0 g.0 s), (f.0, g.0, x, refl, f.2, g.2))

-- two grammars with the same spellings have the same flaws
pub flawed_along : {X Y : Type 0} → (G : Grammar X) (H : Grammar Y) → ((o : List ℕ) (x : X) → G o x → (y : Y) × H o y) → ((o : List ℕ) (y : Y) → H o y → (x : X) × G o x) → (t : List ℕ) (e : Flaw) → Flawed G t e → Flawed H t e
flawed_along G H to from t Short f = (
  λ q. let b = from q.0 q.2 q.4 in f.0 (q.0, q.1, b.0, q.3, b.1),
  let p = f.1 in let b = to (t ++ p.0) p.1 p.2 in (p.0, b.0, b.1),
)
flawed_along G H to from t Bad f = (
  λ q. let b = from q.0 q.2 q.4 in f.0 (q.0, q.1, b.0, q.3, b.1),
  λ q. let b = from (t ++ q.0) q.1 q.2 in f.1 (q.0, b.0, b.1),
)
