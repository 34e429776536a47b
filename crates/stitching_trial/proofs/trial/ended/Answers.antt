use mathlib.Core.Path.{sym, ap}
use Rattle.stitching_trial.specs.Trials.{ended_by}
use Rattle.stitching_trial.proofs.trial.ended.Goals as goal

pub returns-in-UnknownEdge : goal.returns-in-UnknownEdge
unfolding ended_by
returns-in-UnknownEdge c = sym (ap ended_by c.in-UnknownEdge.is)

pub returns-in-UnknownNode : goal.returns-in-UnknownNode
unfolding ended_by
returns-in-UnknownNode c = sym (ap ended_by c.in-UnknownNode.is)

pub returns-in-NotReference : goal.returns-in-NotReference
unfolding ended_by
returns-in-NotReference c = sym (ap ended_by c.in-NotReference.is)

pub returns-in-IncorrectSource : goal.returns-in-IncorrectSource
unfolding ended_by
returns-in-IncorrectSource c = sym (ap ended_by c.in-IncorrectSource.is)

pub returns-in-EmptySymbolStack : goal.returns-in-EmptySymbolStack
unfolding ended_by
returns-in-EmptySymbolStack c = sym (ap ended_by c.in-EmptySymbolStack.is)

pub returns-in-IncorrectPoppedSymbol : goal.returns-in-IncorrectPoppedSymbol
unfolding ended_by
returns-in-IncorrectPoppedSymbol c = sym (ap ended_by c.in-IncorrectPoppedSymbol.is)

pub returns-in-UnexpectedAttachedScopes : goal.returns-in-UnexpectedAttachedScopes
unfolding ended_by
returns-in-UnexpectedAttachedScopes c = sym (ap ended_by c.in-UnexpectedAttachedScopes.is)

pub returns-in-MissingAttachedScopes : goal.returns-in-MissingAttachedScopes
unfolding ended_by
returns-in-MissingAttachedScopes c = sym (ap ended_by c.in-MissingAttachedScopes.is)

pub returns-in-EmptyScopeStack : goal.returns-in-EmptyScopeStack
unfolding ended_by
returns-in-EmptyScopeStack c = sym (ap ended_by c.in-EmptyScopeStack.is)

pub returns-in-UnknownAttachedScope : goal.returns-in-UnknownAttachedScope
unfolding ended_by
returns-in-UnknownAttachedScope c = sym (ap ended_by c.in-UnknownAttachedScope.is)
