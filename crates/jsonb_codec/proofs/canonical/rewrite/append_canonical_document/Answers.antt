use Rattle.std.proofs.Common.{arith}
use Rattle.std.proofs.lemmas.Result.{on_ok_weaker}
use Rattle.jsonb_codec.specs.Canon.{shape_of}
use Rattle.jsonb_codec.proofs.Decision.{known_document}
use Rattle.jsonb_codec.proofs.MadeLaws.{made_if_fit, made_ok}
use Rattle.jsonb_codec.proofs.CopyLaws.{canonical_copy, made_refused, room_left}
use Rattle.jsonb_codec.proofs.canonical.rewrite.append_canonical_document.Goals as goal

-- A canonical document is copied.

pub returns-then-is_canonical_document-clause-appended :
    goal.returns-then-is_canonical_document-clause-appended
returns-then-is_canonical_document-clause-appended c t h =
    let is = c.is_canonical_document.ensures.0 c.if-is_canonical_document.true in
    let copy = canonical_copy _ is t h in
    (copy.0, grind (arith, copy.1))

pub returns-then-is_canonical_document-clause-limits :
    goal.returns-then-is_canonical_document-clause-limits
returns-then-is_canonical_document-clause-limits c =
    let is = c.is_canonical_document.ensures.0 c.if-is_canonical_document.true in
    let (t, h) = known_document _ c.args.document.fact in
    made_ok tt (t, (h, (canonical_copy _ is t h).0))

pub returns-in_err-extend_from_slice-clause-limits :
    goal.returns-in_err-extend_from_slice-clause-limits
returns-in_err-extend_from_slice-clause-limits c =
    let is = c.is_canonical_document.ensures.0 c.if-is_canonical_document.true in
    let (t, h) = known_document _ c.args.document.fact in
    made_refused _ (grind arith) (t, (h, (canonical_copy _ is t h).0))

pub returns-in_err-extend_from_slice-clause-room :
    goal.returns-in_err-extend_from_slice-clause-room
returns-in_err-extend_from_slice-clause-room c t h fit room =
    let is = c.is_canonical_document.ensures.0 c.if-is_canonical_document.true in
    let copy = canonical_copy _ is t h in
    absurd (grind (arith, room_left, copy.1))

-- What holds of the part's shape holds of the tree that the document means.

pub append_document-requires : goal.append_document-requires
append_document-requires c =
    let (t, h) = known_document _ c.args.document.fact in
    (shape_of t, c.part_level.ensures.is t (c.part.ensures.means t h))

pub returns-clause-appended : goal.returns-clause-appended
returns-clause-appended c = on_ok_weaker c.append_document.result (λ known t h.
    let (fit, items) = known (shape_of t) (c.part_level.ensures.is t (c.part.ensures.means t h)) in
    (fit, items))
    c.append_document.ensures.appended

pub returns-clause-limits : goal.returns-clause-limits
returns-clause-limits c =
    let a = c.append_document in
    let (t, h) = known_document _ c.args.document.fact in
    let is = c.part_level.ensures.is t (c.part.ensures.means t h) in
    made_if_fit a.result
    (on_ok_weaker a.result (λ known. (t, (h, (known (shape_of t) is).0))) a.ensures.appended)
    (λ e (u, (k, fit)). a.ensures.past.0 e (shape_of u)
    (c.part_level.ensures.is u (c.part.ensures.means u k)) fit)
    (λ e. (t, (h, a.ensures.memory e (shape_of t) is))) a.ensures.only

pub returns-clause-room : goal.returns-clause-room
returns-clause-room c t h fit =
    (c.append_document.ensures.room (shape_of t)
    (c.part_level.ensures.is t (c.part.ensures.means t h)) fit)
