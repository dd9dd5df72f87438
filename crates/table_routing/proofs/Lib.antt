mod Places
mod PathWalk
mod RouteInsertion
mod MissingRoute
