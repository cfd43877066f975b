-- A text is one script at most, or goes wrong at one place; and how a script is read, request by request.
use Rattle.std.specs.Prelude.{◌≡◌, ◌≢◌, ◌<◌, ◌≤◌, ◌+◌, ◌-◌, ◌^◌, ℕ, suc, List, [], ◌∷◌, ◌++◌, length, flat_map, Result, Ok, Err, ◌⊎◌, refl}
use Rattle.std.specs.List.{AllByRecursion}
use Rattle.std.proofs.Common.{sym, inl, inr, ◌∙◌, ap, arith, append_assoc, append-nil, length-append, subst}
use Rattle.std.proofs.lemmas.Grind.{flat_map-append}
use Rattle.std.proofs.lemmas.List.{nil_from_length}
use Rattle.mdbox_base.specs.declared.requests.Request.{Request}
use Rattle.mdbox_base.specs.declared.script.Script.{Script}
use Rattle.mdbox_base.specs.Numbers.{decimal_text}
use Rattle.script_text.specs.Script.{request_text, request_words, spaced, message_text, script_text, FitsLanes, IsForLanes, IsScript, BeginsNoRequest, GoesWrong, IsBadAt, ScriptGives}
use Rattle.script_text.specs.declared.error.ScriptError.{ScriptError}
use Rattle.script_text.specs.declared.error.ScriptError.TheVariants as script_error
use Rattle.script_text.proofs.RequestLemmas.{request_same, laid_out}

-- ---- one reading

script_cons : (asked : ℕ × Request) (rest : List (ℕ × Request)) (r : List ℕ) → script_text (asked ∷ rest) ++ r ≡ request_text asked ++ (script_text rest ++ r)
script_cons asked rest r = append_assoc (request_text asked) (script_text rest) r

-- behind so many requests and these the text ends, or no request stands there, or they are as many as there may be
abbrev Ends : ℕ → ℕ → List (ℕ × Request) → List ℕ → Type 0
Ends lanes m xs r = (r ≡ []) ⊎ (BeginsNoRequest lanes r ⊎ (m + length xs ≡ 100000))

some_text : (asked : ℕ × Request) (x : List ℕ) → request_text asked ++ x ≢ []
some_text asked x e =
    let line = decimal_text asked.0 ++ 32 ∷ spaced (request_words asked.1) in
    let l : length (line ++ 10 ∷ (message_text asked.1 ++ x)) ≡ 0 = ap length (sym (laid_out asked x) ∙ e) in
    let k : length (line ++ 10 ∷ (message_text asked.1 ++ x)) ≡ length line + length (10 ∷ (message_text asked.1 ++ x)) = length-append line (10 ∷ (message_text asked.1 ++ x)) in
    omega (arith, l, k)

no_more : (lanes m : ℕ) (r s : List ℕ) (y : ℕ × Request) (ys : List (ℕ × Request)) → FitsLanes lanes y → m + suc (length ys) ≤ 100000 → r ≡ script_text (y ∷ ys) ++ s → Ends lanes m [] r → ⊥
no_more lanes m r s y ys p few e (inl none) = some_text y (script_text ys ++ s) (sym (script_cons y ys s) ∙ sym e ∙ none)
no_more lanes m r s y ys p few e (inr (inl wrong)) = wrong y (script_text ys ++ s) p (e ∙ script_cons y ys s)
no_more lanes m r s y ys p few e (inr (inr all)) = omega (arith, all, few)

both_run : (lanes m : ℕ) (xs ys : List (ℕ × Request)) (r s : List ℕ) → lanes < 2 ^ 32 → AllByRecursion (FitsLanes lanes) xs → AllByRecursion (FitsLanes lanes) ys → m + length xs ≤ 100000 → m + length ys ≤ 100000
    → script_text xs ++ r ≡ script_text ys ++ s → Ends lanes m xs r → Ends lanes m ys s → (xs ≡ ys) × (r ≡ s)
both_run lanes m [] [] r s small p q few many e ends other = (refl, e)
both_run lanes m [] (y ∷ ys) r s small p q few many e ends other = absurd (no_more lanes m r s y ys q.0 many e ends)
both_run lanes m (x ∷ xs) [] r s small p q few many e ends other = absurd (no_more lanes m s r x xs p.0 few (sym e) other)
both_run lanes m (x ∷ xs) (y ∷ ys) r s small p q few many e ends other =
    let t = request_same lanes x y (script_text xs ++ r) (script_text ys ++ s) small p.0 q.0 (sym (script_cons x xs r) ∙ e ∙ script_cons y ys s) in
    let u = both_run lanes (m + 1) xs ys r s small p.1 q.1 (omega (arith, few)) (omega (arith, many)) t.1 (ends_next lanes m x xs r ends) (ends_next lanes m y ys s other) in
    (ap (λ (k : ℕ × Request). k ∷ xs) t.0 ∙ ap (λ (k : List (ℕ × Request)). y ∷ k) u.0, u.1)
  where
    ends_next : (lanes m : ℕ) (x : ℕ × Request) (xs : List (ℕ × Request)) (r : List ℕ) → Ends lanes m (x ∷ xs) r → Ends lanes (m + 1) xs r
    ends_next lanes m x xs r (inl none) = inl none
    ends_next lanes m x xs r (inr (inl wrong)) = inr (inl wrong)
    ends_next lanes m x xs r (inr (inr all)) = inr (inr (omega (arith, all)))

wrong_ends : (lanes : ℕ) (text : List ℕ) (good : List (ℕ × Request)) (rest : List ℕ) → GoesWrong lanes text good rest → Ends lanes 0 good rest
wrong_ends lanes text good rest w = elim w.wrong [ inl none ↦ inr (inl none) | inr all ↦ inr (inr (omega (arith, all))) ]

script_fits : (lanes : ℕ) (script : Script) → script.lanes ≡ lanes → IsForLanes script → AllByRecursion (FitsLanes lanes) script.requests
script_fits lanes script e f = subst (λ (n : ℕ). AllByRecursion (FitsLanes n) script.requests) e f.each

script_bad : (lanes : ℕ) (text : List ℕ) (a : Script) (offset : ℕ) → lanes < 2 ^ 32 → IsScript lanes text a → IsBadAt lanes text offset → ⊥
script_bad lanes text a offset small p q =
    let w = q.2 in
    let r = both_run lanes 0 a.requests q.0 [] q.1 small (script_fits lanes a p.lanes_are p.for_lanes) w.each (omega (arith, p.for_lanes.few)) (omega (arith, w.few)) (append-nil (script_text a.requests) ∙ sym p.spelled ∙ w.spelled) (inl refl) (wrong_ends lanes text q.0 q.1 w) in
    let none : length q.1 ≡ 0 = ap length (sym r.1) in
    omega (arith, w.goes_on, none)

pub answer_same : (lanes : ℕ) (text : List ℕ) (a b : Result Script ScriptError) → lanes < 2 ^ 32 → ScriptGives lanes text a → ScriptGives lanes text b → a ≡ b
answer_same lanes text (Ok a) (Ok b) small p q =
    let r = both_run lanes 0 a.requests b.requests [] [] small (script_fits lanes a p.lanes_are p.for_lanes) (script_fits lanes b q.lanes_are q.for_lanes) (omega (arith, p.for_lanes.few)) (omega (arith, q.for_lanes.few))
    (append-nil (script_text a.requests) ∙ sym p.spelled ∙ q.spelled ∙ sym (append-nil (script_text b.requests))) (inl refl) (inl refl) in
    let n : a.lanes ≡ b.lanes = p.lanes_are ∙ sym q.lanes_are in
    ap (λ (k : ℕ). Ok (record { lanes = k; requests = a.requests })) n ∙ ap (λ (k : List (ℕ × Request)). Ok (record { lanes = b.lanes; requests = k })) r.0
answer_same lanes text (Ok a) (Err (script_error.Bad o)) small p q = absurd (script_bad lanes text a o small p q)
answer_same lanes text (Err (script_error.Bad o)) (Ok b) small p q = absurd (script_bad lanes text b o small q p)
answer_same lanes text (Err (script_error.Bad o)) (Err (script_error.Bad n)) small p q =
    let r = both_run lanes 0 p.0 q.0 p.1 q.1 small p.2.each q.2.each (omega (arith, p.2.few)) (omega (arith, q.2.few)) (sym p.2.spelled ∙ q.2.spelled) (wrong_ends lanes text p.0 p.1 p.2) (wrong_ends lanes text q.0 q.1 q.2) in
    let same : o ≡ n = p.3 ∙ ap (λ (k : List (ℕ × Request)). length (script_text k)) r.0 ∙ sym q.3 in
    ap (λ (k : ℕ). Err (script_error.Bad k)) same
answer_same lanes text (Err script_error.NoMemory) b small p q = absurd p
answer_same lanes text (Ok a) (Err script_error.NoMemory) small p q = absurd q
answer_same lanes text (Err (script_error.Bad o)) (Err script_error.NoMemory) small p q = absurd q

-- ---- request by request

-- The text is these requests, and this rest is left of it.
pub record IsReadTo (lanes : ℕ) (text : List ℕ) (requests : List (ℕ × Request)) (rest : List ℕ) : Type 0 where
  pub few : length requests ≤ 100000
  pub each : AllByRecursion (FitsLanes lanes) requests
  pub spelled : text ≡ script_text requests ++ rest

pub read_nothing : (lanes : ℕ) (text : List ℕ) (requests : List (ℕ × Request)) → requests ≡ [] → IsReadTo lanes text requests text
read_nothing lanes text requests e = subst (λ (k : List (ℕ × Request)). IsReadTo lanes text k text) (sym e) (record { few = omega arith; each = tt; spelled = refl })

each_more : (lanes : ℕ) (xs : List (ℕ × Request)) (x : ℕ × Request) → AllByRecursion (FitsLanes lanes) xs → FitsLanes lanes x → AllByRecursion (FitsLanes lanes) (xs ++ x ∷ [])
each_more lanes [] x p q = (q, tt)
each_more lanes (y ∷ xs) x p q = (p.0, each_more lanes xs x p.1 q)

pub read_more : (lanes : ℕ) (text : List ℕ) (requests more : List (ℕ × Request)) (asked : ℕ × Request) (rest after : List ℕ) → IsReadTo lanes text requests rest → length requests ≢ 100000
    → FitsLanes lanes asked → rest ≡ request_text asked ++ after → more ≡ requests ++ asked ∷ [] → IsReadTo lanes text more after
read_more lanes text requests more asked rest after s fewer fits e m =
    subst (λ (k : List (ℕ × Request)). IsReadTo lanes text k after) (sym m) (record {
      few = omega (arith, s.few, fewer, length-append requests (asked ∷ []));
      each = each_more lanes requests asked s.each fits;
      spelled = s.spelled ∙ ap (λ (o : List ℕ). script_text requests ++ o) e ∙ sym (append_assoc (script_text requests) (request_text asked) after)
          ∙ ap (λ (o : List ℕ). (script_text requests ++ o) ++ after) (sym (append-nil (request_text asked)))
          ∙ ap (λ (o : List ℕ). o ++ after) (sym (flat_map-append request_text requests (asked ∷ [])));
    })

pub read_all : (lanes : ℕ) (text : List ℕ) (requests : List (ℕ × Request)) (rest : List ℕ) → IsReadTo lanes text requests rest → length rest ≡ 0 → IsScript lanes text (record { lanes = lanes; requests = requests })
read_all lanes text requests rest s none = record {
  lanes_are = refl;
  for_lanes = record { few = s.few; each = s.each };
  spelled = s.spelled ∙ ap (λ (o : List ℕ). script_text requests ++ o) (nil_from_length rest none) ∙ append-nil (script_text requests);
}

pub read_wrong : (lanes : ℕ) (text : List ℕ) (requests : List (ℕ × Request)) (rest : List ℕ) → IsReadTo lanes text requests rest → 0 < length rest → BeginsNoRequest lanes rest ⊎ (length requests ≡ 100000) → IsBadAt lanes text (length text - length rest)
read_wrong lanes text requests rest s some wrong = (
  requests,
  rest,
  record { few = s.few; each = s.each; spelled = s.spelled; goes_on = some; wrong = wrong },
  omega (arith, ap length s.spelled, length-append (script_text requests) rest),
)
