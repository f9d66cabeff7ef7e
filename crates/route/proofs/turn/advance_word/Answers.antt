-- The word of the new level is the common part of two words: where that is 0 the turn passes it, else it meets the other end's, or what is left
-- loses it.
use lib.ListN.{get_or}
use mir.Syntax.{w64}
use mir.Val.{Fits}
use Rattle.route.proofs.Members.{set_word}
use Rattle.route.proofs.Levels.{level_word, level_own, level_meets, advanced_skip, advanced_more}
use borrow.Author.Rules.{rules}
use Rattle.route.proofs.turn.advance_word.Goals as goal

pub returns-then-new-eq0 : goal.returns-then-new-eq0
returns-then-new-eq0 c =
    let a = c.args in
    λ N L n u. advanced_skip a.i u (level_word a.i u _ (set_word a.joined a.i c.requires) c.requires n) c.if-new-eq0.true

pub returns-then-new-other-ne0 : goal.returns-then-new-other-ne0
returns-then-new-other-ne0 c =
    let a = c.args in
    let h = c.requires in
    let f : Fits w64 (get_or a.joined.words a.i 0) = search rules in
    λ N L n u. level_meets a.i u _ _ (set_word a.joined a.i h) (set_word a.other a.i h) h n f.fits c.if-new-other-ne0.true

pub returns : goal.returns
returns c =
    let a = c.args in
    let h = c.requires in
    let f : Fits w64 (get_or a.joined.words a.i 0) = search rules in
    let s = set_word a.joined a.i h in
    λ N L n u. let w = level_word a.i u _ s h n in
    advanced_more a.i u _ _ s (set_word a.other a.i h) h n f.fits c.if-new-eq0.false c.if-new-other-ne0.false c.put.ensures
    (c.join_word.ensures N w (level_own a.i u w h c.put-own.ensures))
