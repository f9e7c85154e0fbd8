-- From what std's readers say to how numbers are written; and that a text writes one number at most.
use Rattle.std.proofs.Common.{◌≡◌, ℕ, zero, suc, ◌+◌, ◌*◌, ◌/◌, ◌%◌, ◌^◌, ◌<◌, ◌≤◌, List, [], ◌∷◌, ◌++◌, length, get_or, ℤ, pos, negsuc, neg_ℤ, nat_abs, Some, None, Ok, Err, decimal, Option, Result, sym, refl, ap, ◌∙◌, subst, inl, inr, arith, lit≤, length-append, w32, SFits, MatchOption, MatchResult}
use native.Mathlib.Nat.{sub_self}
use lib.Signed.{mag}
use Rattle.std.specs.Str.Parse.{AllDigits, IsNumeral, digits_value}
use Rattle.std.specs.Char.{digit_value}
use Rattle.std.proofs.lemmas.Fmt.{decimal_digit, decimal_is_IsNumeral}
use Rattle.std.proofs.lemmas.List.{get_or-append_right}
use Rattle.numbers.specs.declared.tenths.Tenths.{Tenths}
use Rattle.numbers.specs.Reads.{ReadsTenths}
use Rattle.numbers.specs.declared.tenths.NotTenths.{NotTenths}
use Rattle.numbers.specs.Written.{Size, Whole, Writes, size_text, tenths_text}

abbrev pub Reads : ℕ → List ℕ → ℕ → Type 0
Reads radix bs n = IsNumeral radix bs × (n ≡ digits_value radix bs)

-- c stands nowhere in bs
abbrev pub Lacks : ℕ → List ℕ → Type 0
Lacks c bs = (i : ℕ) → i < length bs → get_or bs i 0 ≡ c → ⊥

-- the first c cuts a list in one way
pub cut_same : (c : ℕ) (xs ys us vs : List ℕ) → Lacks c xs → Lacks c ys → xs ++ (c ∷ us) ≡ ys ++ (c ∷ vs) → (xs ≡ ys) × (us ≡ vs)
cut_same c [] [] us vs lx ly e = (refl, cc)
cut_same c [] (y ∷ ys) us vs lx ly e = absurd (ly 0 (omega arith) (cc))
cut_same c (x ∷ xs) [] us vs lx ly e = absurd (lx 0 (omega arith) (cc))
cut_same c (x ∷ xs) (y ∷ ys) us vs lx ly e =
    let rest : xs ++ (c ∷ us) ≡ ys ++ (c ∷ vs) = cc in
    let same = cut_same c xs ys us vs (λ i h. lx (suc i) (omega arith)) (λ i h. ly (suc i) (omega arith)) rest in
    let p : xs ≡ ys = same.0 in
    (cc, same.1)

-- a byte that is no digit of the base stands in no digits
pub digits_lack : (radix c : ℕ) (ds : List ℕ) → radix ≤ digit_value c → AllDigits radix ds → Lacks c ds
digits_lack radix c [] high h i lt e = omega arith
digits_lack radix c (d ∷ ds) high h zero lt e = let k = rw e at h.0 in omega arith
digits_lack radix c (d ∷ ds) high h (suc i) lt e = digits_lack radix c ds high h.1 i (omega arith) e

hex_lacks_point : (text ds : List ℕ) → text ≡ 48 ∷ (120 ∷ ds) → AllDigits 16 ds → Lacks 46 text
hex_lacks_point text ds e h zero lt q = let z : ◌≡◌ {A = ℕ} 48 46 = rw e at q in omega arith
hex_lacks_point text ds e h (suc zero) lt q = let z : ◌≡◌ {A = ℕ} 120 46 = rw e at q in omega arith
hex_lacks_point text ds e h (suc (suc i)) lt q =
    let l : i < length ds = omega (arith, ap length e) in
    digits_lack 16 46 ds (lit≤ tt) h i l (rw e at q)

-- a whole number has no point in it
pub whole_lacks_point : (text : List ℕ) (w : ℕ) → Whole text w → Lacks 46 text
whole_lacks_point text w (inl h) = digits_lack 10 46 text (lit≤ tt) h.0.1
whole_lacks_point text w (inr h) = hex_lacks_point text h.0 h.1 h.2.1

-- c stands in a list after what is in front of it
at_cut : (text xs ys : List ℕ) (c : ℕ) → text ≡ xs ++ (c ∷ ys) → (length xs < length text) × (get_or text (length xs) 0 ≡ c)
at_cut text xs ys c e =
    (omega (arith, ap length e, length-append xs (c ∷ ys)), rw (e, get_or-append_right xs (c ∷ ys) (length xs) (length xs) 0 refl (omega arith), sub_self))

-- a size that is written with a point
pub size_at_point : (text digits place : List ℕ) → text ≡ digits ++ (46 ∷ place) → Lacks 46 digits → (n : ℕ) → Size text n → (d : ℕ) × (place ≡ (48 + d) ∷ []) × IsNumeral 10 digits × (d < 10) × (n ≡ 10 * digits_value 10 digits + d)
size_at_point text digits place e lacks n (inl h) = let p = at_cut text digits place 46 e in absurd (whole_lacks_point text h.0 h.1 (length digits) p.0 p.1)
size_at_point text digits place e lacks n (inr h) =
    let same = cut_same 46 digits h.0 place ((48 + h.1) ∷ []) lacks (digits_lack 10 46 h.0 (lit≤ tt) h.3.1) (sym e ∙ h.2) in
    (h.1, same.1, subst (IsNumeral 10) (sym same.0) h.3, h.4, h.5 ∙ ap (λ ds. 10 * digits_value 10 ds + h.1) (sym same.0))

-- a size that is written without a point
pub size_no_point : (text : List ℕ) → Lacks 46 text → (n : ℕ) → Size text n → (w : ℕ) × Whole text w × (n ≡ 10 * w)
size_no_point text lacks n (inl h) = h
size_no_point text lacks n (inr h) = let p = at_cut text h.0 ((48 + h.1) ∷ []) 46 h.2 in absurd (lacks (length h.0) p.0 p.1)

-- a text writes one whole number at most
pub whole_unique : (text : List ℕ) (m n : ℕ) → Whole text m → Whole text n → m ≡ n
whole_unique text m n (inl a) (inl b) = a.1 ∙ sym b.1
whole_unique text m n (inl a) (inr b) = absurd (digits_lack 10 120 text (lit≤ tt) a.0.1 1 (omega (arith, ap length b.1)) (rw b.1))
whole_unique text m n (inr a) (inl b) = absurd (digits_lack 10 120 text (lit≤ tt) b.0.1 1 (omega (arith, ap length a.1)) (rw a.1))
whole_unique text m n (inr a) (inr b) = let e = a.1 in let f = b.1 in let same : a.0 ≡ b.0 = cc in a.3 ∙ ap (digits_value 16) same ∙ sym b.3

size_placed_unique : (text : List ℕ) (m n : ℕ) (ds : List ℕ) (d : ℕ) → text ≡ ds ++ (46 ∷ ((48 + d) ∷ [])) → IsNumeral 10 ds → m ≡ 10 * digits_value 10 ds + d → Size text n → m ≡ n
size_placed_unique text m n ds d e num is s =
    let p = size_at_point text ds ((48 + d) ∷ []) e (digits_lack 10 46 ds (lit≤ tt) num.1) n s in
    let q = p.1 in let same : 48 + d ≡ 48 + p.0 = cc in omega (arith, p.4)

-- a text writes one size at most
pub size_unique : (text : List ℕ) (m n : ℕ) → Size text m → Size text n → m ≡ n
size_unique text m n (inl a) (inl b) = omega (arith, a.2, b.2, whole_unique text a.0 b.0 a.1 b.1)
size_unique text m n (inl a) (inr b) = sym (size_placed_unique text n m b.0 b.1 b.2 b.3 b.5 (inl a))
size_unique text m n (inr a) s = size_placed_unique text m n a.0 a.1 a.2 a.3 a.5 s

digit_first : (ds rest tail : List ℕ) → IsNumeral 10 ds → ds ++ tail ≡ 45 ∷ rest → ⊥
digit_first [] rest tail h e = omega (arith, h.0)
digit_first (d ∷ ds) rest tail h e = digits_lack 10 45 (d ∷ ds) (lit≤ tt) h.1 0 (omega arith) (cc)

-- a size begins with no minus sign
pub size_unsigned : (text rest : List ℕ) (n : ℕ) → Size text n → text ≡ 45 ∷ rest → ⊥
size_unsigned text rest n (inl (w, inl h, is)) e = digits_lack 10 45 text (lit≤ tt) h.0.1 0 h.0.0 (rw e)
size_unsigned text rest n (inl (w, inr h, is)) e = let f = h.1 in let z : ◌≡◌ {A = ℕ} 48 45 = cc in omega arith
size_unsigned text rest n (inr h) e = digit_first h.0 rest _ h.3 (sym h.2 ∙ e)

-- a text writes one number at most
pub writes_unique : (text : List ℕ) (y z : ℤ) → Writes text y → Writes text z → y ≡ z
writes_unique text y z (inl a) (inl b) = a.2 ∙ ap pos (size_unique text a.0 b.0 a.1 b.1) ∙ sym b.2
writes_unique text y z (inl a) (inr b) = absurd (size_unsigned text b.0 a.0 a.1 b.2)
writes_unique text y z (inr a) (inl b) = absurd (size_unsigned text a.0 b.0 b.1 a.2)
writes_unique text y z (inr a) (inr b) =
    let e = a.2 in let f = b.2 in let same : b.0 ≡ a.0 = cc in
    let s : Size a.0 b.1 = subst (λ t. Size t b.1) same b.3 in
    a.4 ∙ ap (λ n. neg_ℤ (pos n)) (size_unique a.0 a.1 b.1 a.3 s) ∙ sym b.4

shown_size : (n : ℕ) → n < 2 ^ 64 → Size (size_text n) n
shown_size n small =
    let tens = decimal_is_IsNumeral (n / 10) (omega arith) in
    inr (decimal (n / 10), n % 10, rw (decimal_digit (n % 10) (omega arith)), tens.0, omega arith, omega (arith, tens.1))

-- what a number is shown as writes that number
pub shown_writes : (z : ℤ) → mag z < 2 ^ 63 → Writes (tenths_text z) z
shown_writes (pos n) small = inl (n, shown_size n (omega arith), refl)
shown_writes (negsuc n) small = inr (size_text (suc n), suc n, refl, shown_size (suc n) (omega arith), refl)

-- so a reader of all such texts reads what is shown
back_again : (text : List ℕ) (r : Result Tenths NotTenths) → MatchResult r (λ t. Writes text t.0) (λ e. (z : ℤ) → SFits w32 z → Writes text z → ⊥) → (t : Tenths) → SFits w32 t.0 → text ≡ tenths_text t.0 → r ≡ Ok t
back_again text (Err f) h t fits e = absurd (h t.0 fits (rw e (shown_writes t.0 (omega (arith, fits.sfits)))))
back_again text (Ok s) h t fits e =
    ap (λ z. Ok (record { 0 = z })) (writes_unique text s.0 t.0 h (rw e (shown_writes t.0 (omega (arith, fits.sfits)))))

pub reads_right : (text : List ℕ) (r : Result Tenths NotTenths) → MatchResult r (λ t. Writes text t.0) (λ e. (z : ℤ) → SFits w32 z → Writes text z → ⊥) → ReadsTenths text r
reads_right text r h = record { reads = h; back = back_again text r h }

-- a reader that has worked out the size v, and gives it where it fits
pub sized_by : (r : Option ℕ) (text : List ℕ) (v : ℕ) → MatchOption r (v < 2 ^ 32 → ⊥) (λ n. n ≡ v) → Size text v → MatchOption r ((n : ℕ) → n < 2 ^ 32 → Size text n → ⊥) (Size text)
sized_by None text v h s = λ n small t. h (subst (λ k. k < 2 ^ 32) (size_unique text n v t s) small)
sized_by (Some n) text v h s = subst (Size text) (sym h) s

-- a number that begins with a minus sign
pub signed_minus : (text rest : List ℕ) → text ≡ 45 ∷ rest → (z : ℤ) → Writes text z → (n : ℕ) × Size rest n × (z ≡ neg_ℤ (pos n))
signed_minus text rest e z (inl h) = absurd (size_unsigned text rest h.0 h.1 e)
signed_minus text rest e z (inr h) = let f = h.2 in let same : h.0 ≡ rest = cc in (h.1, subst (λ t. Size t h.1) same h.3, h.4)

-- a number that does not
pub signed_plain : (text : List ℕ) → ((rest : List ℕ) → text ≡ 45 ∷ rest → ⊥) → (z : ℤ) → Writes text z → (n : ℕ) × Size text n × (z ≡ pos n)
signed_plain text plain z (inl h) = h
signed_plain text plain z (inr h) = absurd (plain h.0 h.2)

pub abs_neg : (n : ℕ) → nat_abs (neg_ℤ (pos n)) ≡ n
abs_neg zero = refl
abs_neg (suc n) = refl

pub abs_small : (z : ℤ) → SFits w32 z → nat_abs z < 2 ^ 32
abs_small (pos n) fits = omega (arith, fits.sfits)
abs_small (negsuc n) fits = omega (arith, fits.sfits)
