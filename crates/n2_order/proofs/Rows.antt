-- Rows cut from a text, and actors read from them.
use Rattle.std.proofs.Common.{◌≡◌, ◌≢◌, ℕ, ◌+◌, ◌<◌, ◌≤◌, List, [], ◌∷◌, ◌++◌, length, get_or, take, drop, Some, None, Result, Ok, Err, refl, sym, ap, ◌∙◌, append_assoc, eqb, cond, true, false}
use Rattle.std.proofs.lemmas.List.{append-nil, at_drop_more, at_drop_all, take_more, take_all}
use Rattle.std.proofs.lemmas.Bool.{cond-true, cond-false, eq-eqb, ne_eqb}
use Rattle.n2_order.specs.Lists.{grown, pieces_of, with_actor, actor_of, actors_from}

-- a text in front of the first piece
abbrev pub glued : List ℕ → List (List ℕ) → List (List ℕ)
glued front [] = front ∷ []
glued front (piece ∷ pieces) = (front ++ piece) ∷ pieces

-- actors in front of those that are read
abbrev pub joined : List ℕ → Result (List ℕ) ℕ → Result (List ℕ) ℕ
joined front (Ok actors) = Ok (front ++ actors)
joined front (Err row) = Err row

glued-grown : (front : List ℕ) (c : ℕ) (pieces : List (List ℕ)) → glued front (grown c pieces) ≡ glued (front ++ c ∷ []) pieces
glued-grown front c [] = refl
glued-grown front c (piece ∷ pieces) = ap (λ text. text ∷ pieces) (sym (append_assoc front (c ∷ []) piece))

-- a byte that is no line feed
pub glued_more : (bytes : List ℕ) (at : ℕ) → at < length bytes → get_or bytes at 0 ≢ 10 → glued (take (at + 1) bytes) (pieces_of (drop (at + 1) bytes)) ≡ glued (take at bytes) (pieces_of (drop at bytes))
glued_more bytes at lt other =
    let c : ℕ = get_or bytes at 0 in
    let rest : List ℕ = drop (at + 1) bytes in
    ap (λ front. glued front (pieces_of rest)) (take_more bytes at 0 lt)
    ∙ sym (glued-grown (take at bytes) c (pieces_of rest))
    ∙ ap (glued (take at bytes)) (sym (at_drop_more pieces_of bytes at 0 lt ∙ cond-false (eqb c 10) ([] ∷ pieces_of rest) (grown c (pieces_of rest)) (ne_eqb c 10 other)))

-- a line feed
pub glued_feed : (bytes : List ℕ) (at : ℕ) → at < length bytes → get_or bytes at 0 ≡ 10 → glued (take at bytes) (pieces_of (drop at bytes)) ≡ take at bytes ∷ pieces_of (drop (at + 1) bytes)
glued_feed bytes at lt feed =
    let c : ℕ = get_or bytes at 0 in
    let rest : List ℕ = drop (at + 1) bytes in
    ap (glued (take at bytes)) (at_drop_more pieces_of bytes at 0 lt ∙ cond-true (eqb c 10) ([] ∷ pieces_of rest) (grown c (pieces_of rest)) (eq-eqb c 10 feed))
    ∙ ap (λ front. front ∷ pieces_of rest) (append-nil (take at bytes))

-- no line feed at all
pub glued_all : (bytes : List ℕ) (at : ℕ) → length bytes ≤ at → glued (take at bytes) (pieces_of (drop at bytes)) ≡ bytes ∷ []
glued_all bytes at past =
    ap (glued (take at bytes)) (at_drop_all pieces_of bytes at past)
    ∙ ap (λ front. front ∷ []) (append-nil (take at bytes) ∙ take_all at bytes past)

-- ---- actors

nonempty : (pieces : List (List ℕ)) (c : ℕ) → (piece : List ℕ) × (rest : List (List ℕ)) × (grown c pieces ≡ piece ∷ rest)
nonempty [] c = (c ∷ [], [], refl)
nonempty (piece ∷ pieces) c = (c ∷ piece, pieces, refl)

pieces_some : (bytes : List ℕ) → (piece : List ℕ) × (rest : List (List ℕ)) × (pieces_of bytes ≡ piece ∷ rest)
pieces_some [] = ([], [], refl)
pieces_some (c ∷ cs) =
    elim (eqb c 10) as (λ b. (piece : List ℕ) × (rest : List (List ℕ)) × (cond b ([] ∷ pieces_of cs) (grown c (pieces_of cs)) ≡ piece ∷ rest)) [
      | true ↦ ([], pieces_of cs, refl)
      | false ↦ nonempty (pieces_of cs) c
    ]

-- one row, and those behind it
pub actors_more : (cores row : ℕ) (piece behind : List ℕ) → actors_from cores row (piece ∷ pieces_of behind) ≡ with_actor row (actor_of cores piece) (actors_from cores (row + 1) (pieces_of behind))
actors_more cores row piece behind =
    let s = pieces_some behind in
    ap (λ pieces. actors_from cores row (piece ∷ pieces)) s.2
    ∙ ap (λ pieces. with_actor row (actor_of cores piece) (actors_from cores (row + 1) pieces)) (sym s.2)

joined-with_actor : (front : List ℕ) (row actor : ℕ) (later : Result (List ℕ) ℕ) → joined (front ++ actor ∷ []) later ≡ joined front (with_actor row (Some actor) later)
joined-with_actor front row actor (Ok actors) = ap (λ (x : List ℕ). Ok x) (append_assoc front (actor ∷ []) actors)
joined-with_actor front row actor (Err other) = refl

-- a row that is an actor's
pub joined_more : (cores row actor : ℕ) (front text piece behind : List ℕ) → pieces_of text ≡ piece ∷ pieces_of behind → Some actor ≡ actor_of cores piece → joined (front ++ actor ∷ []) (actors_from cores (row + 1) (pieces_of behind)) ≡ joined front (actors_from cores row (pieces_of text))
joined_more cores row actor front text piece behind cut is =
    joined-with_actor front row actor (actors_from cores (row + 1) (pieces_of behind))
    ∙ ap (λ o. joined front (with_actor row o (actors_from cores (row + 1) (pieces_of behind)))) is
    ∙ ap (joined front) (sym (ap (actors_from cores row) cut ∙ actors_more cores row piece behind))

-- a row that is none's
pub joined_fault : (cores row : ℕ) (front text piece behind : List ℕ) → pieces_of text ≡ piece ∷ pieces_of behind → None ≡ actor_of cores piece → joined front (actors_from cores row (pieces_of text)) ≡ Err row
joined_fault cores row front text piece behind cut is =
    ap (joined front) (ap (actors_from cores row) cut ∙ actors_more cores row piece behind ∙ ap (λ o. with_actor row o (actors_from cores (row + 1) (pieces_of behind))) (sym is))

last_piece : (cores row : ℕ) (front last : List ℕ) → joined front (actors_from cores row (last ∷ [])) ≡ cond (eqb (length last) 0) (Ok front) (Err row)
last_piece cores row front last =
    elim (eqb (length last) 0) as (λ b. joined front (cond b (Ok []) (Err row)) ≡ cond b (Ok front) (Err row)) [
      | true ↦ ap (λ (x : List ℕ). Ok x) (append-nil front)
      | false ↦ refl
    ]

-- what is left has no line feed
pub joined_last : (cores row : ℕ) (front text : List ℕ) → pieces_of text ≡ text ∷ [] → joined front (actors_from cores row (pieces_of text)) ≡ cond (eqb (length text) 0) (Ok front) (Err row)
joined_last cores row front text cut = ap (λ pieces. joined front (actors_from cores row pieces)) cut ∙ last_piece cores row front text

-- nothing in front
pub glued_none : (bytes : List ℕ) → glued [] (pieces_of bytes) ≡ pieces_of bytes
glued_none bytes = let s = pieces_some bytes in ap (glued []) s.2 ∙ sym s.2
