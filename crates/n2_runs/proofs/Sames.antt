-- The tests of sameness tell what is equal.
use Rattle.std.proofs.Common.{◌≡◌, ℕ, Bool, true, false, ◌&&◌, eqb, List, [], ◌∷◌, refl, ap, ◌∙◌, arith}
use Rattle.std.proofs.lemmas.Bool.Decides.{nat_tests}
use Rattle.n2_word.specs.declared.Width.{Width}
use Rattle.n2_word.specs.declared.Width.TheVariants.{Byte, Half, Word}
use Rattle.n2_word.specs.Words.{size}
use Rattle.n2_bus.specs.declared.request.Request.{Request}
use Rattle.n2_bus.specs.declared.request.Request.TheVariants.{FillCode, FillData, WriteBack, Read, Write, Sample, Tick, Receive, Drain}
use Rattle.n2_bus.specs.declared.request.Reply.{Reply}
use Rattle.n2_journal.specs.declared.entry.Entry.{Entry}
use Rattle.n2_runs.specs.Same.{same_words, same_flag, same_request, same_reply, same_entry}

both : {P : Type 0} (x y : Bool) → (x && y) ≡ true → (x ≡ true → y ≡ true → P) → P
both true true e f = f refl refl
both true false e f = absurd (cc)
both false y e f = absurd (cc)

three : {P : Type 0} (x y z : Bool) → (x && y && z) ≡ true → (x ≡ true → y ≡ true → z ≡ true → P) → P
three x y z e f = both (x && y) z e (λ g r. both x y g (λ p q. f p q r))

four : {P : Type 0} (x y z t : Bool) → (x && y && z && t) ≡ true → (x ≡ true → y ≡ true → z ≡ true → t ≡ true → P) → P
four x y z t e f = both (x && y && z) t e (λ g s. three x y z g (λ p q r. f p q r s))

number : (m n : ℕ) → eqb m n ≡ true → m ≡ n
number m n e = grind (arith, nat_tests)

number_self : (n : ℕ) → eqb n n ≡ true
number_self n = grind (arith, nat_tests)

two : (x y : Bool) → x ≡ true → y ≡ true → (x && y) ≡ true
two x y e f = grind arith

words_is : (ws vs : List ℕ) → same_words ws vs ≡ true → ws ≡ vs
words_is [] [] e = refl
words_is [] (v ∷ vs) e = absurd (cc)
words_is (w ∷ ws) [] e = absurd (cc)
words_is (w ∷ ws) (v ∷ vs) e = both (eqb w v) (same_words ws vs) e (λ p q. ap (λ x. x ∷ ws) (number w v p) ∙ ap (λ xs. v ∷ xs) (words_is ws vs q))

words_self : (ws : List ℕ) → same_words ws ws ≡ true
words_self [] = refl
words_self (w ∷ ws) = two (eqb w w) (same_words ws ws) (number_self w) (words_self ws)

flag_is : (x y : Bool) → same_flag x y ≡ true → x ≡ y
flag_is true true e = refl
flag_is true false e = absurd (cc)
flag_is false true e = absurd (cc)
flag_is false false e = refl

flag_self : (x : Bool) → same_flag x x ≡ true
flag_self true = refl
flag_self false = refl

width_is : (w v : Width) → eqb (size w) (size v) ≡ true → w ≡ v
width_is Byte Byte e = refl
width_is Byte Half e = absurd (cc)
width_is Byte Word e = absurd (cc)
width_is Half Byte e = absurd (cc)
width_is Half Half e = refl
width_is Half Word e = absurd (cc)
width_is Word Byte e = absurd (cc)
width_is Word Half e = absurd (cc)
width_is Word Word e = refl

pub request_is : (r s : Request) → same_request r s ≡ true → r ≡ s
request_is (FillCode l) (FillCode m) e = ap FillCode (number l m e)
request_is (FillData l) (FillData m) e = ap FillData (number l m e)
request_is (WriteBack l ws) (WriteBack m vs) e = both (eqb l m) (same_words ws vs) e (λ p q. ap (λ x. WriteBack x ws) (number l m p) ∙ ap (WriteBack m) (words_is ws vs q))
request_is (Read a w) (Read b v) e = both (eqb a b) (eqb (size w) (size v)) e (λ p q. ap (λ x. Read x w) (number a b p) ∙ ap (Read b) (width_is w v q))
request_is (Write a w x) (Write b v y) e =
    three (eqb a b) (eqb (size w) (size v)) (eqb x y) e (λ p q s. ap (λ n. Write n w x) (number a b p) ∙ ap (λ u. Write b u x) (width_is w v q) ∙ ap (Write b v) (number x y s))
request_is Sample Sample e = refl
request_is (Tick n) (Tick m) e = ap Tick (number n m e)
request_is (Receive n) (Receive m) e = ap Receive (number n m e)
request_is (Drain n) (Drain m) e = ap Drain (number n m e)
request_is _ _ e = absurd (cc)

pub request_self : (r : Request) → same_request r r ≡ true
request_self (FillCode l) = number_self l
request_self (FillData l) = number_self l
request_self (WriteBack l ws) = two (eqb l l) (same_words ws ws) (number_self l) (words_self ws)
request_self (Read a w) = two (eqb a a) (eqb (size w) (size w)) (number_self a) (number_self (size w))
request_self (Write a w x) = two (eqb a a && eqb (size w) (size w)) (eqb x x) (two (eqb a a) (eqb (size w) (size w)) (number_self a) (number_self (size w))) (number_self x)
request_self Sample = refl
request_self (Tick n) = number_self n
request_self (Receive n) = number_self n
request_self (Drain n) = number_self n

reply_is : (r s : Reply) → same_reply r s ≡ true → r ≡ s
reply_is r s e =
    four (same_words r.words s.words) (eqb r.lines s.lines) (same_flag r.took s.took) (eqb r.pointer s.pointer) e (λ p q t u.
    ap (λ ws. record { words = ws; lines = r.lines; took = r.took; pointer = r.pointer }) (words_is r.words s.words p)
    ∙ ap (λ n. record { words = s.words; lines = n; took = r.took; pointer = r.pointer }) (number r.lines s.lines q)
    ∙ ap (λ x. record { words = s.words; lines = s.lines; took = x; pointer = r.pointer }) (flag_is r.took s.took t)
    ∙ ap (λ n. record { words = s.words; lines = s.lines; took = s.took; pointer = n }) (number r.pointer s.pointer u))

every : (x y z t : Bool) → x ≡ true → y ≡ true → z ≡ true → t ≡ true → (x && y && z && t) ≡ true
every x y z t p q r s = two (x && y && z) t (two (x && y) z (two x y p q) r) s

reply_self : (r : Reply) → same_reply r r ≡ true
reply_self r = every (same_words r.words r.words) (eqb r.lines r.lines) (same_flag r.took r.took) (eqb r.pointer r.pointer) (words_self r.words) (number_self r.lines) (flag_self r.took) (number_self r.pointer)

pub entry_is : (d e : Entry) → same_entry d e ≡ true → d ≡ e
entry_is d e h =
    four (eqb d.actor e.actor) (eqb d.local e.local) (same_request d.request e.request) (same_reply d.reply e.reply) h (λ p q t u.
    ap (λ n. record { local = d.local; actor = n; request = d.request; reply = d.reply }) (number d.actor e.actor p)
    ∙ ap (λ n. record { local = n; actor = e.actor; request = d.request; reply = d.reply }) (number d.local e.local q)
    ∙ ap (λ r. record { local = e.local; actor = e.actor; request = r; reply = d.reply }) (request_is d.request e.request t)
    ∙ ap (λ r. record { local = e.local; actor = e.actor; request = e.request; reply = r }) (reply_is d.reply e.reply u))

pub entry_self : (e : Entry) → same_entry e e ≡ true
entry_self e = every (eqb e.actor e.actor) (eqb e.local e.local) (same_request e.request e.request) (same_reply e.reply e.reply) (number_self e.actor) (number_self e.local) (request_self e.request) (reply_self e.reply)
