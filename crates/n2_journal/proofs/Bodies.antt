-- What an entry asks for and was replied: what is written is read, and what is read is spelled so.
use Rattle.std.proofs.Common.{◌≡◌, ℕ, ◌^◌, ◌<◌, ◌≤◌, Bool, true, false, cond, eqb, ltb, List, [], ◌∷◌, ◌++◌, Option, Some, None, refl, sym, ap, subst, ◌∙◌, inl, inr, arith}
use Rattle.std.specs.Prelude.{◌&&◌, codes, decimal, IsTrue, slice_index}
use Rattle.std.specs.Str.{bytes_eq}
use Rattle.std.proofs.lemmas.Bool.{cases_Bool, cond-true, cond-false, ltb-true, lt-ltb, ne_eqb}
use Rattle.std.proofs.lemmas.Bool.Decides.{nat_tests}
use Rattle.std.proofs.lemmas.Option.{option_and_then_some, same_Some}
use Rattle.std.proofs.lemmas.Slice.Eq.{bytes_eq-Decides}
use Rattle.std.proofs.lemmas.List.{append-nil}
use Rattle.std.proofs.lemmas.List.Elements.{All-head}
use Rattle.n2_word.specs.declared.Width.{Width}
use Rattle.n2_word.specs.Words.{is_aligned}
use Rattle.n2_text.specs.Fields.{word_text, numeral, at_most, from_one}
use Rattle.n2_text.proofs.Words.{hex_word-word_text}
use Rattle.n2_text.proofs.Decimals.{decimal-numeral}
use Rattle.n2_bus.specs.declared.request.Request.{Request}
use Rattle.n2_bus.specs.declared.request.Request.TheVariants.{FillCode, FillData, WriteBack, Read, Write, Sample, Tick, Receive, Drain}
use Rattle.n2_bus.specs.declared.request.Reply.{Reply}
use Rattle.n2_journal.specs.declared.rows.Access.{Access}
use Rattle.n2_journal.specs.Journals.{no_words, words_reply, first_word, shown, AreEightWords, IsReplyWithin, IsRequestWithin}
use Rattle.n2_journal.specs.Texts.{width_text, bit_text, line_text, words_fields, access_fields, body_fields}
use Rattle.n2_journal.specs.Cursors.{◌>>=◌, next_field, next_word, next_number, next_bit, next_width, next_line, next_by}
use Rattle.n2_journal.specs.Reading.{whole, next_line_number, line_in, access_in, code_in, fill_in, back_in, read_in, write_in, sample_in, tick_in, moved_in, moved_reply, receive_in, drain_in, core_body, device_body}
use Rattle.n2_journal.proofs.Steps.{both_true}
use Rattle.n2_journal.proofs.Fields.{by_takes, word_takes, number_takes, at_most_takes, at_most_again, bit_takes, bit_again, width_takes, width_again, whole_takes, line_takes, line_again, line_number_takes, line_number_again, no_words_fit, first_word_fits}

-- ---- lines, accesses and moved bytes

line_in_takes : (fields : List (List ℕ)) (x : ℕ × List ℕ) → line_in fields ≡ Some x → (x.0 < 2 ^ 26) × AreEightWords x.1 × (fields ≡ line_text x.0 ∷ words_fields x.1)
unfolding line_in
line_in_takes fields x e =
    option_and_then_some _ (next_line_number fields) x e (λ a ea e1. option_and_then_some _ (next_line a.1) x e1 (λ ws ews e2.
    let one = line_number_takes fields a ea in
    let more = line_takes a.1 ws ews in
    let w = whole_takes {A = ℕ × List ℕ} (a.0, ws.0) ws.1 x e2 in
    let tail : a.1 ≡ words_fields ws.0 = more.1 ∙ ap (λ (y : List (List ℕ)). words_fields ws.0 ++ y) w.0 ∙ append-nil (words_fields ws.0) in
    subst (λ (y : ℕ × List ℕ). (y.0 < 2 ^ 26) × AreEightWords y.1 × (fields ≡ line_text y.0 ∷ words_fields y.1)) w.1 (one.0, more.0, one.1 ∙ ap (λ (y : List (List ℕ)). line_text a.0 ∷ y) tail)))

line_in_again : (line : ℕ) (words : List ℕ) → line < 2 ^ 26 → AreEightWords words → line_in (line_text line ∷ words_fields words) ≡ Some (line, words)
unfolding line_in
line_in_again line words lt fit = rw (line_number_again line (words_fields words) lt, line_again words fit) refl

record AccessTaken (fields : List (List ℕ)) (x : Access) : Type 0 where
  address : x.address < 2 ^ 31
  aligned : IsTrue (is_aligned x.address x.width)
  value : x.value < 2 ^ 32
  lines : x.lines < 2 ^ 32
  pointer : x.pointer < 2 ^ 32
  spelled : fields ≡ width_text x.width ∷ word_text x.address ∷ word_text x.value ∷ word_text x.lines ∷ bit_text x.took ∷ word_text x.pointer ∷ []

only_some : {A : Type 0} (b : Bool) (o : Option A) (x : A) → cond b o None ≡ Some x → (b ≡ true) × (o ≡ Some x)
only_some true o x e = (refl, e)
only_some false o x e = absurd cc

access_taken : (fields : List (List ℕ)) (x : Access) (w : Width × List (List ℕ)) (a v l : ℕ × List (List ℕ)) (t : Bool × List (List ℕ)) (p : ℕ × List (List ℕ))
    → next_width fields ≡ Some w → next_word w.1 ≡ Some a → next_word a.1 ≡ Some v → next_word v.1 ≡ Some l → next_bit l.1 ≡ Some t → next_word t.1 ≡ Some p
    → cond (ltb a.0 (2 ^ 31) && is_aligned a.0 w.0) (whole {A = Access} (record { width = w.0; address = a.0; value = v.0; lines = l.0; took = t.0; pointer = p.0 }) p.1) None ≡ Some x
    → AccessTaken fields x
access_taken fields x w a v l t p ew ea ev el et ep e =
    let y : Access = record { width = w.0; address = a.0; value = v.0; lines = l.0; took = t.0; pointer = p.0 } in
    let g = only_some (ltb a.0 (2 ^ 31) && is_aligned a.0 w.0) (whole {A = Access} y p.1) x e in
    let b = both_true (ltb a.0 (2 ^ 31)) (is_aligned a.0 w.0) g.0 in
    let last = whole_takes {A = Access} y p.1 x g.1 in
    let fa = word_takes w.1 a ea in
    let fv = word_takes a.1 v ev in
    let fl = word_takes v.1 l el in
    let fp = word_takes t.1 p ep in
    let spelled : fields ≡ width_text w.0 ∷ word_text a.0 ∷ word_text v.0 ∷ word_text l.0 ∷ bit_text t.0 ∷ word_text p.0 ∷ [] =
    width_takes fields w ew
    ∙ ap (λ (r : List (List ℕ)). width_text w.0 ∷ r) (fa.1
    ∙ ap (λ (r : List (List ℕ)). word_text a.0 ∷ r) (fv.1
    ∙ ap (λ (r : List (List ℕ)). word_text v.0 ∷ r) (fl.1
    ∙ ap (λ (r : List (List ℕ)). word_text l.0 ∷ r) (bit_takes l.1 t et
    ∙ ap (λ (r : List (List ℕ)). bit_text t.0 ∷ r) (fp.1
    ∙ ap (λ (r : List (List ℕ)). word_text p.0 ∷ r) last.0))))) in
    subst (AccessTaken fields) last.1 (record { address = ltb-true a.0 (2 ^ 31) b.0; aligned = b.1; value = fv.0; lines = fl.0; pointer = fp.0; spelled = spelled })

access_in_takes : (fields : List (List ℕ)) (x : Access) → access_in fields ≡ Some x → AccessTaken fields x
unfolding access_in
access_in_takes fields x e =
    option_and_then_some _ (next_width fields) x e (λ w ew e1. option_and_then_some _ (next_word w.1) x e1 (λ a ea e2. option_and_then_some _ (next_word a.1) x e2 (λ v ev e3.
    option_and_then_some _ (next_word v.1) x e3 (λ l el e4. option_and_then_some _ (next_bit l.1) x e4 (λ t et e5. option_and_then_some _ (next_word t.1) x e5 (λ p ep e6.
    access_taken fields x w a v l t p ew ea ev el et ep e6))))))

access_in_again : (width : Width) (address value : ℕ) (r : Reply) → address < 2 ^ 31 → IsTrue (is_aligned address width) → value < 2 ^ 32 → IsReplyWithin r
    → access_in (width_text width ∷ word_text address ∷ word_text value ∷ access_fields r) ≡ Some (record { width = width; address = address; value = value; lines = r.lines; took = r.took; pointer = r.pointer })
unfolding access_in
access_in_again width address value r low aligned small within =
    rw (
      width_again width,
      hex_word-word_text address (omega arith),
      hex_word-word_text value small,
      hex_word-word_text r.lines within.lines,
      bit_again r.took,
      hex_word-word_text r.pointer within.pointer,
      lt-ltb address (2 ^ 31) low,
      aligned,
    )
    refl

moved_in_takes : (fields : List (List ℕ)) (x : ℕ × Bool) → moved_in fields ≡ Some x → (x.0 < 8) × (fields ≡ decimal x.0 ∷ bit_text x.1 ∷ [])
unfolding moved_in
moved_in_takes fields x e =
    option_and_then_some _ (next_number 7 fields) x e (λ u eu e1. option_and_then_some _ (next_bit u.1) x e1 (λ t et e2.
    let one = number_takes 7 fields u (omega arith) eu in
    let last = whole_takes {A = ℕ × Bool} (u.0, t.0) t.1 x e2 in
    let text : fields ≡ decimal u.0 ∷ bit_text t.0 ∷ [] = one.1 ∙ ap (λ (r : List (List ℕ)). decimal u.0 ∷ r) (bit_takes u.1 t et ∙ ap (λ (r : List (List ℕ)). bit_text t.0 ∷ r) last.0) in
    subst (λ (y : ℕ × Bool). (y.0 < 8) × (fields ≡ decimal y.0 ∷ bit_text y.1 ∷ [])) last.1 (omega (arith, one.0), text)))

moved_in_again : (uart : ℕ) (took : Bool) → uart < 8 → moved_in (decimal uart ∷ bit_text took ∷ []) ≡ Some (uart, took)
unfolding moved_in
moved_in_again uart took small = rw (at_most_again 7 uart (omega arith) (omega arith), bit_again took) refl

-- ---- what is read is spelled so

abbrev pub IsOfCore : Request → Type 0
IsOfCore (Tick n) = ⊥
IsOfCore (Receive uart) = ⊥
IsOfCore (Drain uart) = ⊥
IsOfCore _ = Unit {0}

abbrev pub IsOfDevices : Request → Type 0
IsOfDevices (Tick n) = Unit {0}
IsOfDevices (Receive uart) = Unit {0}
IsOfDevices (Drain uart) = Unit {0}
IsOfDevices _ = ⊥

-- fields that are those of a request and its reply
pub record Taken (fields : List (List ℕ)) (x : Request × Reply) : Type 0 where
  pub request : IsRequestWithin x.0
  pub reply : IsReplyWithin x.1
  pub shown : x.1 ≡ shown x.0 x.1
  pub spelled : fields ≡ body_fields x.0 x.1

pub record CoreTaken (fields : List (List ℕ)) (x : Request × Reply) : Type 0 where
  pub core : IsOfCore x.0
  pub body : Taken fields x

pub record DeviceTaken (fields : List (List ℕ)) (x : Request × Reply) : Type 0 where
  pub devices : IsOfDevices x.0
  pub body : Taken fields x

words_within : (words : List ℕ) → AreEightWords words → IsReplyWithin (words_reply words)
words_within words fit = record { words = fit; lines = omega arith; pointer = omega arith }

code_takes : (fields : List (List ℕ)) (x : Request × Reply) → code_in fields ≡ Some x → CoreTaken (codes "code" ∷ fields) x
unfolding body_fields
code_takes fields x e =
    option_and_then_some _ (line_in fields) x e (λ y ey e1.
    let t = line_in_takes fields y ey in
    subst (CoreTaken (codes "code" ∷ fields)) (same_Some _ x e1) (record { core = tt; body = record { request = t.0; reply = words_within y.1 t.1; shown = refl; spelled = ap (λ (r : List (List ℕ)). codes "code" ∷ r) t.2 } }))

fill_takes : (fields : List (List ℕ)) (x : Request × Reply) → fill_in fields ≡ Some x → CoreTaken (codes "fill" ∷ fields) x
unfolding body_fields
fill_takes fields x e =
    option_and_then_some _ (line_in fields) x e (λ y ey e1.
    let t = line_in_takes fields y ey in
    subst (CoreTaken (codes "fill" ∷ fields)) (same_Some _ x e1) (record { core = tt; body = record { request = t.0; reply = words_within y.1 t.1; shown = refl; spelled = ap (λ (r : List (List ℕ)). codes "fill" ∷ r) t.2 } }))

back_takes : (fields : List (List ℕ)) (x : Request × Reply) → back_in fields ≡ Some x → CoreTaken (codes "back" ∷ fields) x
unfolding body_fields
back_takes fields x e =
    option_and_then_some _ (line_in fields) x e (λ y ey e1.
    let t = line_in_takes fields y ey in
    subst (CoreTaken (codes "back" ∷ fields)) (same_Some _ x e1) (record { core = tt; body = record { request = (t.0, t.1); reply = words_within no_words no_words_fit; shown = refl; spelled = ap (λ (r : List (List ℕ)). codes "back" ∷ r) t.2 } }))

read_takes : (fields : List (List ℕ)) (x : Request × Reply) → read_in fields ≡ Some x → CoreTaken (codes "read" ∷ fields) x
unfolding body_fields
read_takes fields x e =
    option_and_then_some _ (access_in fields) x e (λ y ey e1.
    let t = access_in_takes fields y ey in
    subst (CoreTaken (codes "read" ∷ fields)) (same_Some _ x e1) (record {
      core = tt;
      body = record {
        request = (t.address, t.aligned);
        reply = record { words = first_word_fits y.value t.value; lines = t.lines; pointer = t.pointer };
        shown = refl;
        spelled = ap (λ (r : List (List ℕ)). codes "read" ∷ r) t.spelled;
      };
    }))

write_takes : (fields : List (List ℕ)) (x : Request × Reply) → write_in fields ≡ Some x → CoreTaken (codes "write" ∷ fields) x
unfolding body_fields
write_takes fields x e =
    option_and_then_some _ (access_in fields) x e (λ y ey e1.
    let t = access_in_takes fields y ey in
    subst (CoreTaken (codes "write" ∷ fields)) (same_Some _ x e1) (record {
      core = tt;
      body = record {
        request = (t.address, t.aligned, t.value);
        reply = record { words = no_words_fit; lines = t.lines; pointer = t.pointer };
        shown = refl;
        spelled = ap (λ (r : List (List ℕ)). codes "write" ∷ r) t.spelled;
      };
    }))

abbrev sample_pair : ℕ → Request × Reply
sample_pair lines = (Sample, record { words = no_words; lines = lines; took = false; pointer = 0 })

sample_takes : (fields : List (List ℕ)) (x : Request × Reply) → sample_in fields ≡ Some x → CoreTaken (codes "sample" ∷ fields) x
unfolding body_fields
sample_takes fields x e =
    option_and_then_some _ (next_word fields) x e (λ l el e1.
    let t = word_takes fields l el in
    let last = whole_takes (sample_pair l.0) l.1 x e1 in
    subst (CoreTaken (codes "sample" ∷ fields)) last.1 (record {
      core = tt;
      body = record {
        request = tt;
        reply = record { words = no_words_fit; lines = t.0; pointer = omega arith };
        shown = refl;
        spelled = ap (λ (r : List (List ℕ)). codes "sample" ∷ r) (t.1 ∙ ap (λ (r : List (List ℕ)). word_text l.0 ∷ r) last.0);
      };
    }))

from_one_takes : (o : Option ℕ) (n : ℕ) → from_one o ≡ Some n → (1 ≤ n) × (o ≡ Some n)
from_one_takes None n e = absurd cc
from_one_takes (Some m) n e =
    elim (cases_Bool (eqb m 0)) [
      | inl zero_is ↦ let none : from_one (Some m) ≡ None = cond-true (eqb m 0) None (Some m) zero_is in absurd (let h = e in cc)
      | inr other ↦
          let some : from_one (Some m) ≡ Some m = cond-false (eqb m 0) None (Some m) other in
          let p : m ≡ n = same_Some m n (sym some ∙ e) in
          let positive : 1 ≤ m = grind (arith, nat_tests) in
          (omega arith, ap (λ (k : ℕ). Some k) p)
    ]

abbrev tick_pair : ℕ → Request × Reply
tick_pair n = (Tick n, words_reply no_words)

tick_takes : (fields : List (List ℕ)) (x : Request × Reply) → tick_in fields ≡ Some x → DeviceTaken (codes "tick" ∷ fields) x
unfolding body_fields
tick_takes fields x e =
    option_and_then_some _ (next_by (λ field. from_one (at_most 4294967295 (numeral field))) fields) x e (λ n en e1.
    let b = by_takes (λ field. from_one (at_most 4294967295 (numeral field))) fields n en in
    let f = from_one_takes (at_most 4294967295 (numeral b.0)) n.0 b.1 in
    let m = at_most_takes 4294967295 (numeral b.0) n.0 f.1 in
    let last = whole_takes (tick_pair n.0) n.1 x e1 in
    let text : fields ≡ decimal n.0 ∷ [] = b.2 ∙ ap (λ (r : List (List ℕ)). b.0 ∷ r) last.0 ∙ ap (λ (y : List ℕ). y ∷ []) (decimal-numeral b.0 n.0 (omega (arith, m.0)) m.1) in
    subst (DeviceTaken (codes "tick" ∷ fields)) last.1 (record {
      devices = tt;
      body = record {
        request = (f.0, omega (arith, m.0));
        reply = words_within no_words no_words_fit;
        shown = refl;
        spelled = ap (λ (r : List (List ℕ)). codes "tick" ∷ r) text;
      };
    }))

moved_within : (took : Bool) → IsReplyWithin (moved_reply took)
moved_within took = record { words = no_words_fit; lines = omega arith; pointer = omega arith }

receive_takes : (fields : List (List ℕ)) (x : Request × Reply) → receive_in fields ≡ Some x → DeviceTaken (codes "receive" ∷ fields) x
unfolding body_fields
receive_takes fields x e =
    option_and_then_some _ (moved_in fields) x e (λ y ey e1.
    let t = moved_in_takes fields y ey in
    subst (DeviceTaken (codes "receive" ∷ fields)) (same_Some _ x e1) (record { devices = tt; body = record { request = t.0; reply = moved_within y.1; shown = refl; spelled = ap (λ (r : List (List ℕ)). codes "receive" ∷ r) t.1 } }))

drain_takes : (fields : List (List ℕ)) (x : Request × Reply) → drain_in fields ≡ Some x → DeviceTaken (codes "drain" ∷ fields) x
unfolding body_fields
drain_takes fields x e =
    option_and_then_some _ (moved_in fields) x e (λ y ey e1.
    let t = moved_in_takes fields y ey in
    subst (DeviceTaken (codes "drain" ∷ fields)) (same_Some _ x e1) (record { devices = tt; body = record { request = t.0; reply = moved_within y.1; shown = refl; spelled = ap (λ (r : List (List ℕ)). codes "drain" ∷ r) t.1 } }))

-- a kind, or another one
pub kind_cases : {A P : Type 0} (kind word : List ℕ) (o other : Option A) (x : A) → cond (bytes_eq kind word) o other ≡ Some x → (kind ≡ word → o ≡ Some x → P) → (other ≡ Some x → P) → P
kind_cases kind word o other x e this that =
    elim (cases_Bool (bytes_eq kind word)) [
      | inl same ↦ this ((bytes_eq-Decides kind word).0 same) (sym (cond-true (bytes_eq kind word) o other same) ∙ e)
      | inr differs ↦ that (sym (cond-false (bytes_eq kind word) o other differs) ∙ e)
    ]

of_kind : (P : List (List ℕ) → Type 0) (kind word : List ℕ) (fields : List (List ℕ)) → kind ≡ word → P (word ∷ fields) → P (kind ∷ fields)
of_kind P kind word fields e h = subst (λ (k : List ℕ). P (k ∷ fields)) (sym e) h

pub core_body_takes : (kind : List ℕ) (fields : List (List ℕ)) (x : Request × Reply) → core_body kind fields ≡ Some x → CoreTaken (kind ∷ fields) x
unfolding core_body
core_body_takes kind fields x e =
    let P : List (List ℕ) → Type 0 = λ f. CoreTaken f x in
    kind_cases kind (codes "code") (code_in fields) _ x e (λ k h. of_kind P kind (codes "code") fields k (code_takes fields x h)) (λ e1.
    kind_cases kind (codes "fill") (fill_in fields) _ x e1 (λ k h. of_kind P kind (codes "fill") fields k (fill_takes fields x h)) (λ e2.
    kind_cases kind (codes "back") (back_in fields) _ x e2 (λ k h. of_kind P kind (codes "back") fields k (back_takes fields x h)) (λ e3.
    kind_cases kind (codes "read") (read_in fields) _ x e3 (λ k h. of_kind P kind (codes "read") fields k (read_takes fields x h)) (λ e4.
    kind_cases kind (codes "write") (write_in fields) _ x e4 (λ k h. of_kind P kind (codes "write") fields k (write_takes fields x h)) (λ e5.
    kind_cases kind (codes "sample") (sample_in fields) None x e5 (λ k h. of_kind P kind (codes "sample") fields k (sample_takes fields x h)) (λ e6. absurd cc))))))

pub device_body_takes : (kind : List ℕ) (fields : List (List ℕ)) (x : Request × Reply) → device_body kind fields ≡ Some x → DeviceTaken (kind ∷ fields) x
unfolding device_body
device_body_takes kind fields x e =
    let P : List (List ℕ) → Type 0 = λ f. DeviceTaken f x in
    kind_cases kind (codes "tick") (tick_in fields) _ x e (λ k h. of_kind P kind (codes "tick") fields k (tick_takes fields x h)) (λ e1.
    kind_cases kind (codes "receive") (receive_in fields) _ x e1 (λ k h. of_kind P kind (codes "receive") fields k (receive_takes fields x h)) (λ e2.
    kind_cases kind (codes "drain") (drain_in fields) None x e2 (λ k h. of_kind P kind (codes "drain") fields k (drain_takes fields x h)) (λ e3. absurd cc)))

-- ---- what is written is read

abbrev pub core_body_in : List (List ℕ) → Option (Request × Reply)
core_body_in fields = next_field fields >>= λ kind. core_body kind.0 kind.1

abbrev pub device_body_in : List (List ℕ) → Option (Request × Reply)
device_body_in fields = next_field fields >>= λ kind. device_body kind.0 kind.1

abbrev with_reply : Request → Reply → Option (Request × Reply)
with_reply q r = Some (q, r)

first_small : (words : List ℕ) → AreEightWords words → slice_index words 0 < 2 ^ 32
first_small [] fit = absurd (omega (arith, fit.0))
first_small (word ∷ words) fit = All-head (λ w. w < 2 ^ 32) word words fit.1

pub core_body_again : (q : Request) (r : Reply) → IsOfCore q → IsRequestWithin q → IsReplyWithin r → r ≡ shown q r → core_body_in (body_fields q r) ≡ Some (q, r)
unfolding body_fields core_body
core_body_again (FillCode line) r core q within shows = rw (line_in_again line r.words q within.words) (ap (with_reply (FillCode line)) (sym shows))
core_body_again (FillData line) r core q within shows = rw (line_in_again line r.words q within.words) (ap (with_reply (FillData line)) (sym shows))
core_body_again (WriteBack line words) r core q within shows = rw (line_in_again line words q.0 q.1) (ap (with_reply (WriteBack line words)) (sym shows))
core_body_again (Read address width) r core q within shows = rw (access_in_again width address (first_word r) r q.0 q.1 (first_small r.words within.words) within) (ap (with_reply (Read address width)) (sym shows))
core_body_again (Write address width value) r core q within shows = rw (access_in_again width address value r q.0 q.1 q.2 within) (ap (with_reply (Write address width value)) (sym shows))
core_body_again Sample r core q within shows = rw (hex_word-word_text r.lines within.lines) (ap (with_reply Sample) (sym shows))
core_body_again (Tick n) r core q within shows = absurd core
core_body_again (Receive uart) r core q within shows = absurd core
core_body_again (Drain uart) r core q within shows = absurd core

pub device_body_again : (q : Request) (r : Reply) → IsOfDevices q → IsRequestWithin q → IsReplyWithin r → r ≡ shown q r → device_body_in (body_fields q r) ≡ Some (q, r)
unfolding body_fields device_body
device_body_again (Tick n) r devices q within shows =
    let read : at_most 4294967295 (numeral (decimal n)) ≡ Some n = at_most_again 4294967295 n (omega (arith, q.1)) (omega arith) in
    let some : eqb n 0 ≡ false = ne_eqb n 0 (λ z. omega (arith, q.0)) in
    rw (read, some) (ap (with_reply (Tick n)) (sym shows))
device_body_again (Receive uart) r devices q within shows = rw (moved_in_again uart r.took q) (ap (with_reply (Receive uart)) (sym shows))
device_body_again (Drain uart) r devices q within shows = rw (moved_in_again uart r.took q) (ap (with_reply (Drain uart)) (sym shows))
device_body_again (FillCode line) r devices q within shows = absurd devices
device_body_again (FillData line) r devices q within shows = absurd devices
device_body_again (WriteBack line words) r devices q within shows = absurd devices
device_body_again (Read address width) r devices q within shows = absurd devices
device_body_again (Write address width value) r devices q within shows = absurd devices
device_body_again Sample r devices q within shows = absurd devices
