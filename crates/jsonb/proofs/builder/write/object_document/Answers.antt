use Rattle.std.proofs.Common.{◌≡◌, refl, Err, rules}
use Rattle.std.specs.List.{All}
use Rattle.std.specs.Map.{values_of}
use Rattle.jsonb_value.specs.declared.error.Error.TheVariants.{InvalidJsonb, OutOfMemory}
use Rattle.jsonb_codec.specs.Shape.{object}
use Rattle.jsonb_codec.specs.Stored.{shapes_by}
use Rattle.jsonb.proofs.ObjectLaws.{AreKeys-held, values-held, at_pairs, of_pairs}
use Rattle.jsonb.proofs.SameEntryLaws.{object_made, object_fits}
use Rattle.jsonb.proofs.builder.write.object_document.Goals as goal

pub returns-then-not-are_stored_at-clause-past : goal.returns-then-not-are_stored_at-clause-past
returns-then-not-are_stored_at-clause-past g c = λ e ps shown fit.
    let s = g.T.Stored in
    let es = c.args.pairs.now.entries in
    let all : All s.stored (values_of es) =
    of_pairs s.stored es (object_fits s.stored s.code es ps shown fit).0 in
    search rules

pub append_document-requires : goal.append_document-requires
append_document-requires g c =
    let s = g.T.Stored in
    let es = c.args.pairs.now.entries in
    let all : All s.stored (values_of es) = search rules in (
      _,
      (
        shapes_by (λ e. e.0.now) (λ e. s.code e.1) es,
        (refl, record { all = at_pairs s.stored es all; shapes = refl }),
      ),
    )

pub returns-in_err-append_document-clause-past : goal.returns-in_err-append_document-clause-past
returns-in_err-append_document-clause-past g c = λ e ps shown fit.
    let s = g.T.Stored in
    let (all, fits) = object_fits s.stored s.code c.args.pairs.now.entries ps shown fit in
    let past : c.append_document.result ≡ Err InvalidJsonb = search rules in
    c.append_document.ensures.past.0 past _ (_, (refl, record { all = all; shapes = refl })) fits

pub returns-in_err-append_document-clause-memory :
    goal.returns-in_err-append_document-clause-memory
returns-in_err-append_document-clause-memory g c = λ e ps shown.
    let s = g.T.Stored in
    let es = c.args.pairs.now.entries in
    let all : All s.stored (values_of es) = search rules in
    let memory : c.append_document.result ≡ Err OutOfMemory = search rules in
    let fits = c.append_document.ensures.memory memory _
    (_, (refl, record { all = at_pairs s.stored es all; shapes = refl })) in
    (object_made s.stored s.code es ps shown (at_pairs s.stored es all) fits).fit

pub returns-clause-ok : goal.returns-clause-ok
returns-clause-ok g c = λ ps shown.
    let s = g.T.Stored in
    let es = c.args.pairs.now.entries in
    let all : All s.stored (values_of es) = search rules in
    let (fits, made) = c.in_ok-append_document.ensures.appended
    (object (shapes_by (λ e. e.0.now) (λ e. s.code e.1) es))
    (_, (refl, record { all = at_pairs s.stored es all; shapes = refl })) in
    rw (c.new.ensures, made, c.new-bytes.ensures.items)
    (object_made s.stored s.code es ps shown (at_pairs s.stored es all) fits)

pub returns-clause-keys : goal.returns-clause-keys
returns-clause-keys g c =
    AreKeys-held g.T.Stored.held c.args.pairs.now.entries
    c.in_ok-append_document.ensures.held c.are_stored_at.ensures.ascend

pub returns-clause-held : goal.returns-clause-held
returns-clause-held g c =
    values-held g.T.Stored.held c.args.pairs.now.entries c.in_ok-append_document.ensures.held
