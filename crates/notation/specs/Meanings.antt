-- Words by place, and that words write one value at most.
use Rattle.std.specs.Prelude.{◌≡◌, ℕ, zero, suc, ◌+◌, ◌<◌, List, [], ◌∷◌, ◌++◌, length, take, Result, slice_index, slice_index_or, refl}
use Rattle.std.proofs.Common.{inl, inr, sym, ap, subst, ◌∙◌, arith}
use Rattle.std.proofs.Math.Path.{transport}
use Rattle.std.specs.Borrow.{Bor}
use Rattle.std.proofs.lemmas.List.{map_more}
use Rattle.numbers.proofs.Reading.{whole_unique, writes_unique}
use Rattle.numbers.specs.declared.tenths.Tenths.{Tenths}
use Rattle.values.proofs.Makings.{in_service_unique, made_unique, parts_unique, withdrawn_unique}
use Rattle.values.specs.Baselines.{HasParts, baseline_out}
use Rattle.values.specs.Making.{Made}
use Rattle.values.specs.Notices.{IsInService, IsWithdrawn, in_service_out, withdrawn_out}
use Rattle.values.specs.declared.baseline.Baseline.{Baseline}
use Rattle.values.specs.declared.fault.ValueFault.{ValueFault}
use Rattle.values.specs.declared.notice.Notice.{Notice}
use Rattle.notation.specs.Pairs.{paired_push}
use Rattle.notation.specs.Written.{BaselineWords, NoticeWords}
use Rattle.notation.specs.Words.{IsTenths, IsWhole, Numbers, Says, Wholes, texts, word}

pub word_at : (ws : List (Bor (List ℕ))) (i : ℕ) (d : Bor (List ℕ)) → i < length ws → word i (texts ws) ≡ (slice_index_or ws i d).now
word_at [] i d h = absurd (omega arith)
word_at (w ∷ ws) zero d h = refl
word_at (w ∷ ws) (suc i) d h = word_at ws i d (omega arith)

-- what holds of the word behind a reference, and of the word at its place
pub from_ref : (P : List ℕ → Type 0) (ws : List (Bor (List ℕ))) (i : ℕ) (d : Bor (List ℕ)) → i < length ws → P (slice_index_or ws i d).now → P (word i (texts ws))
from_ref P ws i d h p = subst P (sym (word_at ws i d h)) p

pub to_ref : (P : List ℕ → Type 0) (ws : List (Bor (List ℕ))) (i : ℕ) (d : Bor (List ℕ)) → i < length ws → P (word i (texts ws)) → P (slice_index_or ws i d).now
to_ref P ws i d h p = subst P (word_at ws i d h) p

-- a list of numbers, written out from the place i on
abbrev pub spelt : ℕ → ℕ → List ℕ → List ℕ
spelt zero i ns = []
spelt (suc k) i ns = slice_index ns i ∷ spelt k (suc i) ns

spelt_more : (k i n : ℕ) (ns : List ℕ) → spelt k (suc i) (n ∷ ns) ≡ spelt k i ns
spelt_more zero i n ns = refl
spelt_more (suc k) i n ns = ap (λ l. slice_index ns i ∷ l) (spelt_more k (suc i) n ns)

pub spelt_all : (ns : List ℕ) → spelt (length ns) 0 ns ≡ ns
spelt_all [] = refl
spelt_all (n ∷ ns) = ap (λ l. n ∷ l) (spelt_more (length ns) 0 n ns ∙ spelt_all ns)

-- numbers after a name, by place
pub says : (k : ℕ) (ws : List (Bor (List ℕ))) (name : List ℕ) (first : Bor (List ℕ)) (rest : List (Bor (List ℕ))) (ns : List ℕ) → ws ≡ first ∷ rest → first.now ≡ name → Numbers k (texts rest) ns → Says (texts ws) name (spelt k 0 ns)
says k ws name first rest ns e is h =
    (texts rest, ap texts e ∙ ap (λ w. w ∷ texts rest) is, subst (Wholes (texts rest)) (sym (spelt_all ns) ∙ ap (λ n. spelt n 0 ns) h.0) h.1)

pub length_texts : (ws : List (Bor (List ℕ))) → length (texts ws) ≡ length ws
length_texts [] = refl
length_texts (w ∷ ws) = ap suc (length_texts ws)

pub no_texts : (ws : List (Bor (List ℕ))) → length ws ≡ 0 → texts ws ≡ []
no_texts [] e = refl
no_texts (w ∷ ws) e = absurd (omega (arith, e))

pub one_text : (ws : List (Bor (List ℕ))) (d : Bor (List ℕ)) → length ws ≡ 1 → texts ws ≡ (slice_index_or ws 0 d).now ∷ []
one_text [] d e = absurd (omega (arith, e))
one_text (w ∷ []) d e = refl
one_text (w ∷ (v ∷ ws)) d e = absurd (omega (arith, e))

pub wholes_length : (ws : List (List ℕ)) (ns : List ℕ) → Wholes ws ns → length ws ≡ length ns
wholes_length [] [] h = refl
wholes_length [] (n ∷ ns) h = absurd h
wholes_length (w ∷ ws) [] h = absurd h
wholes_length (w ∷ ws) (n ∷ ns) h = ap suc (wholes_length ws ns h.1)

pub wholes_at : (ws : List (List ℕ)) (ns : List ℕ) → Wholes ws ns → (k : ℕ) → k < length ns → IsWhole (word k ws) (slice_index ns k)
wholes_at [] [] h k lt = absurd (omega arith)
wholes_at [] (n ∷ ns) h k lt = absurd h
wholes_at (w ∷ ws) [] h k lt = absurd h
wholes_at (w ∷ ws) (n ∷ ns) h zero lt = h.0
wholes_at (w ∷ ws) (n ∷ ns) h (suc k) lt = wholes_at ws ns h.1 k (omega arith)

pub wholes_from : (ws : List (List ℕ)) (ns : List ℕ) → length ws ≡ length ns → ((k : ℕ) → k < length ns → IsWhole (word k ws) (slice_index ns k)) → Wholes ws ns
wholes_from [] [] e h = tt
wholes_from [] (n ∷ ns) e h = absurd (omega (arith, e))
wholes_from (w ∷ ws) [] e h = absurd (omega (arith, e))
wholes_from (w ∷ ws) (n ∷ ns) e h = (h 0 (omega arith), wholes_from ws ns (omega (arith, e)) (λ k lt. h (suc k) (omega arith)))

-- one word more
pub wholes_more : (ws : List (Bor (List ℕ))) (i : ℕ) (d : Bor (List ℕ)) (ns all : List ℕ) (n : ℕ) → i < length ws → Wholes (texts (take i ws)) ns → IsWhole (slice_index_or ws i d).now n → all ≡ ns ++ (n ∷ []) → Wholes (texts (take (i + 1) ws)) all
wholes_more ws i d ns all n here so_far is e = rw (e, map_more (λ w. w.now) ws i d here) (paired_push IsWhole (texts (take i ws)) ns (slice_index_or ws i d).now n so_far is)

whole_same : (w : List ℕ) (m n : ℕ) → IsWhole w m → IsWhole w n → m ≡ n
whole_same w m n h k = whole_unique w m n h.0 k.0

tenths_same : (w : List ℕ) (s t : Tenths) → IsTenths w s → IsTenths w t → s ≡ t
tenths_same w s t h k = λ i. record { 0 = writes_unique w s.0 t.0 h.0 k.0 i }

wholes_unique : (ws : List (List ℕ)) (ms ns : List ℕ) → Wholes ws ms → Wholes ws ns → ms ≡ ns
wholes_unique [] [] [] h k = refl
wholes_unique [] [] (n ∷ ns) h k = absurd k
wholes_unique [] (m ∷ ms) ns h k = absurd h
wholes_unique (w ∷ ws) [] ns h k = absurd h
wholes_unique (w ∷ ws) (m ∷ ms) [] h k = absurd k
wholes_unique (w ∷ ws) (m ∷ ms) (n ∷ ns) h k =
    let head = whole_same w m n h.0 k.0 in let tail = wholes_unique ws ms ns h.1 k.1 in cc

pub says_unique : (ws : List (List ℕ)) (x y ms ns : List ℕ) → Says ws x ms → Says ws y ns → (x ≡ y) × (ms ≡ ns)
says_unique ws x y ms ns h k =
    let e = h.1 in let f = k.1 in
    let names : x ≡ y = cc in
    let rests : k.0 ≡ h.0 = cc in
    (names, wholes_unique h.0 ms ns h.2 (subst (λ r. Wholes r ns) rests k.2))

pub says_some : (ws : List (Bor (List ℕ))) (x ns : List ℕ) → length ws ≡ 0 → Says (texts ws) x ns → ⊥
says_some ws x ns none h = omega (arith, length_texts ws, ap length h.1)

-- the numbers after the first word, where that word is the name
pub says_rest : (ws : List (Bor (List ℕ))) (name : List ℕ) (first : Bor (List ℕ)) (rest : List (Bor (List ℕ))) (x ns : List ℕ) → ws ≡ first ∷ rest → first.now ≡ name → Says (texts ws) x ns → (x ≡ name) × Wholes (texts rest) ns
says_rest ws name first rest x ns e is h =
    let all = sym h.1 ∙ ap texts e in
    let names : x ≡ name = cc in
    let rests : h.0 ≡ texts rest = cc in
    (names, subst (λ r. Wholes r ns) rests h.2)

same_baseline : (x y z u v w : Tenths) (d e : ℕ) (a b : Result Baseline ValueFault) → x ≡ u → y ≡ v → z ≡ w → d ≡ e → Made (baseline_out x.0 y.0 z.0 d) (HasParts x y z d) a → Made (baseline_out u.0 v.0 w.0 e) (HasParts u v w e) b → a ≡ b
same_baseline x y z u v w d e a b p q r s h k =
    made_unique (baseline_out u.0 v.0 w.0 e) (HasParts u v w e) (parts_unique u v w e) a b
    (transport (λ i. Made (baseline_out (p i).0 (q i).0 (r i).0 (s i)) (HasParts (p i) (q i) (r i) (s i)) a) h) k

pub baseline_one : (ws : List (List ℕ)) (a b : Result Baseline ValueFault) → BaselineWords ws a → BaselineWords ws b → a ≡ b
baseline_one ws a b h k =
    same_baseline h.x h.y h.z k.x k.y k.z h.day k.day a b
    (tenths_same (word 0 ws) h.x k.x h.x_is k.x_is)
    (tenths_same (word 1 ws) h.y k.y h.y_is k.y_is)
    (tenths_same (word 2 ws) h.z k.z h.z_is k.z_is)
    (whole_same (word 3 ws) h.day k.day h.day_is k.day_is)
    h.made k.made

same_service : (s d t c : ℕ) (a b : Result Notice ValueFault) → s ≡ t → d ≡ c → Made (in_service_out s d) (IsInService s d) a → Made (in_service_out t c) (IsInService t c) b → a ≡ b
same_service s d t c a b p q h k =
    made_unique (in_service_out t c) (IsInService t c) (in_service_unique t c) a b
    (transport (λ i. Made (in_service_out (p i) (q i)) (IsInService (p i) (q i)) a) h) k

same_withdrawn : (s d r t c q : ℕ) (a b : Result Notice ValueFault) → s ≡ t → d ≡ c → r ≡ q → Made (withdrawn_out s d r) (IsWithdrawn s d r) a → Made (withdrawn_out t c q) (IsWithdrawn t c q) b → a ≡ b
same_withdrawn s d r t c q a b x y z h k =
    made_unique (withdrawn_out t c q) (IsWithdrawn t c q) (withdrawn_unique t c q) a b
    (transport (λ i. Made (withdrawn_out (x i) (y i) (z i)) (IsWithdrawn (x i) (y i) (z i)) a) h) k

pub notice_one : (ws : List (List ℕ)) (a b : Result Notice ValueFault) → NoticeWords ws a → NoticeWords ws b → a ≡ b
notice_one ws a b (inl h) (inl k) = h.1 ∙ sym k.1
notice_one ws a b (inl h) (inr (inl k)) = let other = (says_unique ws _ _ _ _ h.0 k.2).0 in cc
notice_one ws a b (inl h) (inr (inr k)) = let other = (says_unique ws _ _ _ _ h.0 k.3).0 in cc
notice_one ws a b (inr (inl h)) (inl k) = let other = (says_unique ws _ _ _ _ h.2 k.0).0 in cc
notice_one ws a b (inr (inl h)) (inr (inl k)) =
    let e = (says_unique ws _ _ _ _ h.2 k.2).1 in
    same_service h.0 h.1 k.0 k.1 a b (cc) (cc) h.3 k.3
notice_one ws a b (inr (inl h)) (inr (inr k)) = let other = (says_unique ws _ _ _ _ h.2 k.3).0 in cc
notice_one ws a b (inr (inr h)) (inl k) = let other = (says_unique ws _ _ _ _ h.3 k.0).0 in cc
notice_one ws a b (inr (inr h)) (inr (inl k)) = let other = (says_unique ws _ _ _ _ h.3 k.2).0 in cc
notice_one ws a b (inr (inr h)) (inr (inr k)) =
    let e = (says_unique ws _ _ _ _ h.3 k.3).1 in
    same_withdrawn h.0 h.1 h.2 k.0 k.1 k.2 a b (cc) (cc) (cc) h.4 k.4
